-- A serial that is found is the asked one, byte for byte, in the lowest slot that has it; where none is found, no slot has it.
-- Assumes nothing.
use mathlib.Core.Path.{◌≡◌, refl, sym, ap, ap₂, ◌∙◌}
use mathlib.Core.Logic.{◌≢◌}
use mathlib.Core.Bool.{Bool, true, false, true≢false, false≢true}
use mathlib.Core.List.{List, [], ◌∷◌}
use Prim.Native.Nat.{ℕ, zero, suc, ◌<◌, ◌≤◌, zero-le, suc-le-suc}
use native.Mathlib.Nat.{not-suc-le-zero, le_of_suc-le-suc, zero-lt-suc}
use native.Mathlib.Omega.{arith}
use borrow.Author.Tests.{eq-eqb, eqb-true}
use lib.Dec.{eqb}
use lib.ListN.{length, get_or}
use Rattle.base.specs.Choice.{choose}
use Rattle.base.proofs.Choice.{both_true}
use Rattle.std.specs.Prelude.{Option, Some, None, is_some}
use Rattle.std.specs.Option.{MatchOption}
use Rattle.serials.specs.Serials.{serials}
use Rattle.serials.specs.LookUp.{alike, look_up_from, look_up}
use Rattle.serials.specs.Lowest.{Lowest, Tells}

-- ---- two serials
pub alike_same : (s t : List ℕ) → alike s t ≡ true → s ≡ t
alike_same [] [] e = refl
alike_same [] (b ∷ t) e = absurd (false≢true e)
alike_same (a ∷ s) [] e = absurd (false≢true e)
alike_same (a ∷ s) (b ∷ t) e =
    let parts = both_true (eqb a b) (alike s t) e in
    ap₂ ◌∷◌ (eqb-true a b parts.0) (alike_same s t parts.1)

pub alike_self : (s : List ℕ) → alike s s ≡ true
alike_self [] = refl
alike_self (a ∷ s) = rw (eq-eqb a a refl) (alike_self s)

pub same_alike : {s t : List ℕ} → s ≡ t → alike s t ≡ true
same_alike {s} e = ap (alike s) (sym e) ∙ alike_self s

-- ---- what is found
abbrev later : Option ℕ → Option ℕ
later (Some k) = Some (suc k)
later None = None

later_choose : (b : Bool) (f g : Option ℕ) → choose b (later f) (later g) ≡ later (choose b f g)
later_choose true f g = refl
later_choose false f g = refl

shifted : (k : ℕ) (ss : List (List ℕ)) (asked : List ℕ) → look_up_from (suc k) ss asked ≡ later (look_up_from k ss asked)
unfolding look_up_from
shifted k [] asked = refl
shifted k (s ∷ ss) asked = rw (shifted (suc k) ss asked) (later_choose (alike s asked) (Some k) (look_up_from (suc k) ss asked))

-- a slot more in front
module _ (s : List ℕ) (ss : List (List ℕ)) (asked : List ℕ) where
  none_before : s ≢ asked → (k : ℕ) → ((j : ℕ) → j < k → get_or ss j [] ≢ asked) → (j : ℕ) → j < suc k → get_or (s ∷ ss) j [] ≢ asked
  none_before n k ns zero h = n
  none_before n k ns (suc j) h = ns j (le_of_suc-le-suc h)

  tells_later : s ≢ asked → (f : Option ℕ) → Tells ss asked f → Tells (s ∷ ss) asked (later f)
  tells_later n (Some k) t = record { there = suc-le-suc t.there; same = t.same; before = none_before n k t.before }
  tells_later n None t = none_before n (length ss) t

pub look_up_tells : (ss : List (List ℕ)) (asked : List ℕ) → Tells ss asked (look_up ss asked)
unfolding look_up_from
look_up_tells [] asked = λ j h. absurd (not-suc-le-zero h)
look_up_tells (s ∷ ss) asked = rw (shifted 0 ss asked) (go (alike s asked) refl (look_up_tells ss asked))
  where
    go : (b : Bool) → alike s asked ≡ b → Tells ss asked (look_up ss asked) → Tells (s ∷ ss) asked (choose b (Some 0) (later (look_up ss asked)))
    go true e t = record { there = zero-lt-suc (length ss); same = alike_same s asked e; before = λ j h. absurd (not-suc-le-zero h) }
    go false e t = tells_later s ss asked (λ same. true≢false (sym (same_alike same) ∙ e)) (look_up ss asked) t

-- the same of a call of `find`
pub find_tells : (chars ends asked : List ℕ) (r : Option ℕ) → r ≡ look_up (serials chars ends) asked → Tells (serials chars ends) asked r
find_tells chars ends asked r e = rw e (look_up_tells (serials chars ends) asked)

-- ---- what stands lowest is found, and what no slot has is not
module _ (ss : List (List ℕ)) (asked : List ℕ) where
  pub lowest_found : (k : ℕ) → Lowest ss asked k → look_up ss asked ≡ Some k
  lowest_found k low = go (look_up ss asked) (look_up_tells ss asked)
    where
      go : (f : Option ℕ) → Tells ss asked f → f ≡ Some k
      go (Some j) t =
          let low_j : ¬ (j < k) = λ h. low.before j h t.same in
          let low_k : ¬ (k < j) = λ h. t.before k h low.same in
          ap Some (omega arith)
      go None t = absurd (t k low.there low.same)

  pub held_nowhere : ((j : ℕ) → j < length ss → get_or ss j [] ≢ asked) → look_up ss asked ≡ None
  held_nowhere none = go (look_up ss asked) (look_up_tells ss asked)
    where
      go : (f : Option ℕ) → Tells ss asked f → f ≡ None
      go (Some j) t = absurd (none j t.there t.same)
      go None t = refl

  -- what is found in slot order, as `find` gives it over a range
  pub first_found : (n : ℕ) → n ≡ length ss → (r : Option ℕ)
      → MatchOption r ((k : ℕ) → 0 ≤ k → k < n → get_or ss k [] ≢ asked)
      (λ k. (0 ≤ k) × (k < n) × (get_or ss k [] ≡ asked) × ((j : ℕ) → 0 ≤ j → j < k → get_or ss j [] ≢ asked))
      → r ≡ look_up ss asked
  first_found n all None none = sym (held_nowhere (λ j l. none j zero-le (omega arith)))
  first_found n all (Some k) h = sym (lowest_found k (record { there = omega (arith, h.1); same = h.2; before = λ j l. h.3 j zero-le l }))

  -- a serial is found only among those of its length
  pub other_length : ((j : ℕ) → j < length ss → length (get_or ss j []) ≢ length asked) → look_up ss asked ≡ None
  other_length none = held_nowhere (λ j h e. none j h (ap length e))

  pub not_found : is_some (look_up ss asked) ≡ false → (j : ℕ) → j < length ss → get_or ss j [] ≢ asked
  not_found e = go (look_up ss asked) e (look_up_tells ss asked)
    where
      go : (f : Option ℕ) → is_some f ≡ false → Tells ss asked f → (j : ℕ) → j < length ss → get_or ss j [] ≢ asked
      go (Some k) e t = absurd (true≢false e)
      go None e t = t
