-- The search for a fault gives the earliest line that fails a test, with the first test that it fails; where it gives another answer, no line fails one.
-- By induction over the lines that are left.
-- Assumes nothing.
use mathlib.Core.Path.{◌≡◌, refl, sym, ap, subst, ◌∙◌}
use mathlib.Core.Bool.{Bool, true, false, true≢false}
use mathlib.Core.Logic.{◌⊎◌, inl, inr, ⊎_elim, ◌≢◌}
use mathlib.Core.List.{List, [], ◌∷◌, map-append}
use Prim.Native.Nat.{ℕ, zero, suc, ◌+◌, ◌≤◌, ◌<◌}
use native.Mathlib.Nat.{not-suc-le-zero, le_refl}
use native.Mathlib.Omega.{arith}
use borrow.Author.Count.{below_more}
use borrow.Author.Tests.{ltb-true}
use lib.Dec.{ltb}
use lib.ListN.{length, get_or, take, drop, length-map, drop_of_length-le}
use lib.Seq.{take-suc, drop-cons, length-take-le}
use Rattle.base.specs.Choice.{choose, both}
use Rattle.base.specs.Refusal.{Refusal, first_of, Answer}
use Rattle.base.proofs.Choice.{both_true, below_or_not}
use Rattle.lines.specs.Lines.{Line}
use Rattle.lines.specs.Faults.{line_number, refused_at, unless_faulty, first_fault}
use Rattle.lines.proofs.Faults.{fine_slot}
use Rattle.lines.specs.FirstFault.{serials_of, no_line, tests_of, Faultless, FirstFault}

module _ (ls : List Line) (fine : Answer) where
  -- the search from line k on
  abbrev from : ℕ → Answer
  from k = first_fault (serials_of (take k ls)) (drop k ls) fine

  -- its first turn
  turn : (k : ℕ) → k < length ls → from k ≡ unless_faulty (first_of (tests_of ls k)) (suc k) (from (suc k))
  unfolding first_fault line_number
  turn k h =
      rw (
        drop-cons ls k no_line h,
        take-suc ls k no_line h,
        map-append (λ (l : Line). l.serial) (take k ls) (get_or ls k no_line ∷ []),
        length-map (take k ls) (λ (l : Line). l.serial),
        length-take-le k ls (omega arith),
      )

  -- what it gives: the other answer, or a fault
  abbrev Outcome : Answer → Type 0
  Outcome a =
      (Faultless ls × (a ≡ fine)) ⊎ ((line : ℕ) × (number : ℕ) × FirstFault ls line number × (a ≡ refused_at number line))

  outcome : (left k : ℕ) → k + left ≡ length ls → ((j : ℕ) → j < k → first_of (tests_of ls j) ≡ 0) → Outcome (from k)
  unfolding first_fault
  outcome zero k e passed = inl ((λ j h. passed j (omega arith)), rw (drop_of_length-le ls {i = k} (omega arith)))
  outcome (suc left) k e passed =
      rw (turn k (omega arith))
      (go (first_of (tests_of ls k)) refl
      (λ none. outcome left (suc k) (omega arith) (λ j h. below_more (λ j. first_of (tests_of ls j) ≡ 0) k passed none j (omega arith))))
    where
      go : (n : ℕ) → first_of (tests_of ls k) ≡ n → (first_of (tests_of ls k) ≡ 0 → Outcome (from (suc k)))
          → Outcome (unless_faulty n (suc k) (from (suc k)))
      go zero none rest = rest none
      go (suc n) is rest =
          inr (suc k, suc n, record { slot = k; counted = refl; there = omega arith; passed = passed; fails = is; given = omega arith }, refl)

  pub search_outcome : Outcome (first_fault [] ls fine)
  search_outcome = outcome (length ls) 0 (omega arith) (λ j h. absurd (not-suc-le-zero h))

  pub fine_faultless : (first_fault [] ls fine).number ≡ 0 → Faultless ls × (first_fault [] ls fine ≡ fine)
  fine_faultless e =
      ⊎_elim (λ p. p) (λ p. absurd (omega (arith, p.2.given, ap (λ (a : Answer). a.number) p.3))) search_outcome

  pub faultless_fine : Faultless ls → first_fault [] ls fine ≡ fine
  faultless_fine passed =
      ⊎_elim (λ p. p.1) (λ p. absurd (omega (arith, p.2.given, p.2.fails, passed p.2.slot p.2.there))) search_outcome

  pub first_fault_lem : {number line : ℕ} → refused_at number line ≡ first_fault [] ls fine → number ≢ fine.number
      → FirstFault ls line number
  first_fault_lem e n =
      ⊎_elim (λ p. absurd (n (ap (λ (a : Answer). a.number) (e ∙ p.1))))
      (λ p.
      let same = e ∙ p.3 in
      rw (ap (λ (a : Answer). a.number) same, ap (λ (a : Answer). get_or a.values 0 0) same) p.2)
      search_outcome

-- a line past 257 fails its last test, so no later one is refused than 258
pub fault_most : {ls : List Line} {line number : ℕ} → FirstFault ls line number → line ≤ 258
unfolding line_number
fault_most {ls} f = ⊎_elim (λ h. absurd (past h)) (λ h. omega (arith, f.counted)) (below_or_not 257 f.slot)
  where
    past : 257 < f.slot → ⊥
    past h =
        let l = get_or ls 257 no_line in
        omega (
          arith,
          fine_slot (serials_of (take 257 ls)) l.serial l.ended (sym (f.passed 257 h)),
          length-map (take 257 ls) (λ (l : Line). l.serial),
          length-take-le 257 ls (omega (arith, f.there)),
        )

-- ---- within a line the lowest number, since the tests' numbers rise
abbrev rising : ℕ → List Refusal → Bool
rising n [] = true
rising n (r ∷ rs) = both (ltb n r.number) (rising r.number rs)

-- no test that applies has a lower number
abbrev pub NoneLower : ℕ → List Refusal → Type 0
NoneLower n [] = Unit {0}
NoneLower n (r ∷ rs) = (r.applies ≡ true → n ≤ r.number) × NoneLower n rs

none_lower : (n m : ℕ) (rs : List Refusal) → n ≤ m → rising m rs ≡ true → NoneLower n rs
none_lower n m [] h e = tt
none_lower n m (r ∷ rs) h e =
    let parts = both_true (ltb m r.number) (rising r.number rs) e in
    let more = ltb-true m r.number parts.0 in
    ((λ applies. omega arith), none_lower n r.number rs (omega arith) parts.1)

first_lowest : (n : ℕ) (rs : List Refusal) → rising n rs ≡ true → NoneLower (first_of rs) rs
first_lowest n [] e = tt
first_lowest n (r ∷ rs) e =
    let later = (both_true (ltb n r.number) (rising r.number rs) e).1 in
    go r.applies refl (none_lower r.number r.number rs (le_refl r.number) later) (first_lowest r.number rs later)
  where
    go : (b : Bool) → r.applies ≡ b → NoneLower r.number rs → NoneLower (first_of rs) rs → NoneLower (choose b r.number (first_of rs)) (r ∷ rs)
    go true is here later = ((λ applies. le_refl r.number), here)
    go false is here later = ((λ applies. absurd (true≢false (sym applies ∙ is))), later)

pub lowest_number : {ls : List Line} {line number : ℕ} (f : FirstFault ls line number) → NoneLower number (tests_of ls f.slot)
lowest_number {ls} f = subst (λ (n : ℕ). NoneLower n (tests_of ls f.slot)) f.fails (first_lowest 0 (tests_of ls f.slot) refl)
