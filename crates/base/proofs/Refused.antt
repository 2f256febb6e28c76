-- The laws of an order of refusals: a stretch of it that refuses decides, one that does not leaves the rest to decide, and where none is
-- given none applies. Then what a call leaves in a buffer.
-- Assumes nothing.
use mathlib.Core.Path.{◌≡◌, refl, sym, ap, ◌∙◌}
use mathlib.Core.Logic.{◌≢◌}
use mathlib.Core.Bool.{Bool, true, false}
use mathlib.Core.List.{List, [], ◌∷◌, ◌++◌}
use Prim.Native.Nat.{ℕ, zero, suc, ◌<◌}
use native.Mathlib.Omega.{arith}
use borrow.Author.Tests.{ltb-true}
use lib.Dec.{ltb}
use Rattle.base.specs.Choice.{choose, both}
use Rattle.base.specs.Refusal.{Refusal, first_of, unless_refused}
use Rattle.base.proofs.Choice.{both_true}

-- no refusal has the number 0
abbrev pub numbered : List Refusal → Bool
numbered [] = true
numbered (r ∷ rs) = both (ltb 0 r.number) (numbered rs)

abbrev pub NoneApplies : List Refusal → Type 0
NoneApplies [] = Unit {0}
NoneApplies (r ∷ rs) = (r.applies ≡ false) × NoneApplies rs

untaken : (t : Bool) (k x : ℕ) → 0 < k → choose t k x ≡ 0 → (t ≡ false) × (x ≡ 0)
untaken true k x h e = absurd (omega arith)
untaken false k x h e = (refl, e)

pub none_applies : (rs : List Refusal) → numbered rs ≡ true → first_of rs ≡ 0 → NoneApplies rs
none_applies [] n e = tt
none_applies (r ∷ rs) n e =
    let m = both_true (ltb 0 r.number) (numbered rs) n in
    let u = untaken r.applies r.number (first_of rs) (ltb-true 0 r.number m.0) e in
    (u.0, none_applies rs m.1 u.1)

pub first_passed : (xs ys : List Refusal) → numbered xs ≡ true → first_of xs ≡ 0 → first_of (xs ++ ys) ≡ first_of ys
first_passed [] ys n e = refl
first_passed (r ∷ xs) ys n e =
    let m = both_true (ltb 0 r.number) (numbered xs) n in
    let u = untaken r.applies r.number (first_of xs) (ltb-true 0 r.number m.0) e in
    rw u.0 (first_passed xs ys m.1 u.1)

pub first_kept : (xs ys : List Refusal) → first_of xs ≢ 0 → first_of (xs ++ ys) ≡ first_of xs
first_kept [] ys n = absurd (n refl)
first_kept (r ∷ xs) ys n = go (first_kept xs ys) r.applies n
  where
    go : (first_of xs ≢ 0 → first_of (xs ++ ys) ≡ first_of xs) → (t : Bool) → choose t r.number (first_of xs) ≢ 0
        → choose t r.number (first_of (xs ++ ys)) ≡ choose t r.number (first_of xs)
    go later true n = refl
    go later false n = later n

-- an order that gives none, in two stretches
pub first_none : (xs ys : List Refusal) → numbered xs ≡ true → first_of (xs ++ ys) ≡ 0 → (first_of xs ≡ 0) × (first_of ys ≡ 0)
first_none [] ys n e = (refl, e)
first_none (r ∷ xs) ys n e =
    let m = both_true (ltb 0 r.number) (numbered xs) n in
    let u = untaken r.applies r.number (first_of (xs ++ ys)) (ltb-true 0 r.number m.0) e in
    let rest = first_none xs ys m.1 u.1 in
    (rw u.0 rest.0, rest.1)

-- ---- an order that is tested in two steps: r is what the first stretch gives, and k what the second does
module _ (xs ys : List Refusal) {r : ℕ} (first : r ≡ first_of xs) where
  pub refused_first : r ≢ 0 → r ≡ first_of (xs ++ ys)
  refused_first n = first ∙ sym (first_kept xs ys (λ e. n (first ∙ e)))

  pub refused_then : {k : ℕ} → numbered xs ≡ true → r ≡ 0 → k ≡ first_of ys → k ≡ first_of (xs ++ ys)
  refused_then n none second = second ∙ sym (first_passed xs ys n (sym first ∙ none))

-- ---- what is left in a buffer
pub left_alone : (k : ℕ) (done before : List ℕ) → k ≢ 0 → unless_refused k done before ≡ before
left_alone zero done before n = absurd (n refl)
left_alone (suc k) done before n = refl

pub left_done : (k : ℕ) (done before : List ℕ) → k ≡ 0 → unless_refused k done before ≡ done
left_done k done before e = ap (λ (k : ℕ). unless_refused k done before) e

-- the same of a call that tests its refusal r first
module _ {k r : ℕ} (done before : List ℕ) (is : r ≡ k) where
  pub leaves_alone : r ≢ 0 → before ≡ unless_refused k done before
  leaves_alone n = sym (left_alone k done before (λ e. n (is ∙ e)))

  pub leaves_done : {after : List ℕ} → r ≡ 0 → after ≡ done → after ≡ unless_refused k done before
  leaves_done e same = same ∙ sym (left_done k done before (sym is ∙ e))
