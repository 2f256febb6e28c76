-- The refusal of a job, but for 9, depends on the 14 bytes of its header and on its length alone, and of a length above the limit on its
-- header alone.
-- Assumes nothing.
use mathlib.Core.Path.{◌≡◌, refl, sym, ap, ◌∙◌}
use mathlib.Core.Logic.{◌≢◌}
use mathlib.Core.Bool.{Bool, true, false}
use mathlib.Core.List.{List, [], ◌∷◌, ◌++◌}
use Prim.Native.Nat.{ℕ, ◌+◌, ◌-◌, ◌≤◌, ◌<◌}
use native.Mathlib.Omega.{arith}
use borrow.Author.Tests.{ltb-false, ne_eqb, le-ltb}
use lib.Dec.{ltb}
use lib.ListN.{length, get_or, take, length-drop}
use lib.Seq.{get_or-take}
use Rattle.base.specs.Choice.{choose}
use Rattle.base.specs.Refusal.{Refusal, first_of}
use Rattle.shape.specs.Layout.{size}
use Rattle.shape.proofs.Refused.{well_shaped}
use Rattle.header.specs.Fields.{field}
use Rattle.header.specs.Header.{command_of, geometry_of, stripe_of}
use Rattle.header.specs.Refusals.{job_limit, refusal9, refusal20, job_refusal}
use Rattle.header.specs.Steps.{header_refusals}
use Rattle.header.proofs.Order.{limits_of, from3}
use Rattle.header.proofs.Accepted.{accepted}

-- two orders that begin alike
first_tail : (xs ys zs : List Refusal) → first_of ys ≡ first_of zs → first_of (xs ++ ys) ≡ first_of (xs ++ zs)
first_tail [] ys zs e = e
first_tail (r ∷ xs) ys zs e = ap (λ (k : ℕ). choose r.applies r.number k) (first_tail xs ys zs e)

-- jobs that agree in their first n bytes
module _ (job other : List ℕ) (n : ℕ) (same : take n job ≡ take n other) where
  pub same_byte : (k : ℕ) → k < n → get_or job k 0 ≡ get_or other k 0
  same_byte k h = sym (get_or-take n job k 0 h) ∙ ap (λ (l : List ℕ). get_or l k 0) same ∙ get_or-take n other k 0 h

  pub same_field : (k : ℕ) → k + 1 < n → field job k ≡ field other k
  unfolding field
  same_field k h = rw (same_byte k (omega arith), same_byte (k + 1) h)

module _ (job other : List ℕ) (header : take 14 job ≡ take 14 other) where
  byte : (k : ℕ) → k < 14 → get_or job k 0 ≡ get_or other k 0
  byte = same_byte job other 14 header

  number : (k : ℕ) → k + 1 < 14 → field job k ≡ field other k
  number = same_field job other 14 header

  -- by what the test for 16 makes of the lengths, and what follows 20 of the stripes
  by_stripes : ltb (length job) 14 ≡ ltb (length other) 14
      → (size (geometry_of other) ≤ job_limit → first_of (from3 other (stripe_of job)) ≡ first_of (from3 other (stripe_of other)))
      → job_refusal job ≡ job_refusal other
  unfolding job_refusal
  by_stripes short rest =
      rw (byte 0 (omega arith), byte 1 (omega arith), byte 2 (omega arith), number 3 (omega arith), byte 5 (omega arith), number 6 (omega arith), number 8 (omega arith), number 10 (omega arith), number 12 (omega arith), short)
      (first_tail (header_refusals other ++ limits_of other) (refusal20 (geometry_of other) ∷ from3 other (stripe_of job)) (refusal20 (geometry_of other) ∷ from3 other (stripe_of other))
      (go (ltb job_limit (size (geometry_of other))) refl))
    where
      go : (large : Bool) → ltb job_limit (size (geometry_of other)) ≡ large
          → choose large 20 (first_of (from3 other (stripe_of job)))
          ≡ choose large 20 (first_of (from3 other (stripe_of other)))
      go true e = refl
      go false e = rest (ltb-false job_limit (size (geometry_of other)) e)

  -- refusals but 9 depend on numbers and lengths alone, never on the bytes of the stripe
  pub refusal_but_9 : length job ≡ length other
      → (refusal9 (geometry_of other) (command_of other) (stripe_of job)).applies ≡ (refusal9 (geometry_of other) (command_of other) (stripe_of other)).applies
      → job_refusal job ≡ job_refusal other
  refusal_but_9 e nine =
      by_stripes (ap (λ (n : ℕ). ltb n 14) e)
      (λ h. rw (length-drop 14 job ∙ ap (λ (n : ℕ). n - 14) e ∙ sym (length-drop 14 other), nine))

  -- and 9 is a repair's
  pub refusal_by_header : command_of other ≢ 4 → length job ≡ length other → job_refusal job ≡ job_refusal other
  refusal_by_header n e = refusal_but_9 e (simp (ne_eqb (command_of other) 4 n))

  -- no stripe is so long
  pub refusal_past_limit : 14 + job_limit < length job → 14 + job_limit < length other → job_refusal job ≡ job_refusal other
  refusal_past_limit h k =
      by_stripes (le-ltb (length job) 14 (omega arith) ∙ sym (le-ltb (length other) 14 (omega arith)))
      (λ fits. three job h fits ∙ sym (three other k fits))
    where
      three : (l : List ℕ) → 14 + job_limit < length l → size (geometry_of other) ≤ job_limit → first_of (from3 other (stripe_of l)) ≡ 3
      three l p fits = simp (ne_eqb (length (stripe_of l)) (size (geometry_of other)) (λ e. omega (arith, length-drop 14 l)))

pub too_long : (job : List ℕ) → 14 + job_limit < length job → job_refusal job ≢ 0
too_long job h e =
    let ok = accepted job e in
    let whole = well_shaped (geometry_of job) (stripe_of job) ok.shape in
    omega (arith, length-drop 14 job)
