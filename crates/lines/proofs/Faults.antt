-- The laws of the search for the first fault: a line that fails a test ends it, one that passes leaves it to the others. And what a line that passes
-- has, beyond its tests' words.
-- Assumes nothing.
use mathlib.Core.Path.{◌≡◌, refl, sym}
use mathlib.Core.Logic.{◌≢◌}
use mathlib.Core.Bool.{Bool}
use mathlib.Core.List.{List, [], ◌∷◌, ◌++◌}
use Prim.Native.Nat.{ℕ, zero, suc, ◌≤◌, ◌<◌}
use native.Mathlib.Omega.{arith}
use borrow.Author.Tests.{ltb-false}
use lib.Dec.{eqb}
use lib.ListN.{length}
use Rattle.base.specs.Refusal.{Answer}
use Rattle.base.proofs.Choice.{either_false}
use Rattle.base.proofs.Refused.{none_applies}
use Rattle.lines.specs.declared.Fault.{Fault}
use Rattle.lines.specs.declared.Fault.TheVariants.{BadCharacter, BadLength, NoLineFeed, Repeated, PastLast}
use Rattle.lines.specs.Lines.{Line}
use Rattle.lines.specs.Faults.{number_of, line_refusals, line_number, refused_at, unless_faulty, first_fault}

given : (f : Fault) (line : ℕ) (next : Answer) → unless_faulty (number_of f) line next ≡ refused_at (number_of f) line
given BadCharacter line next = refl
given BadLength line next = refl
given NoLineFeed line next = refl
given Repeated line next = refl
given PastLast line next = refl

module _ (before : List (List ℕ)) (serial : List ℕ) (ended : Bool) (ls : List Line) (fine : Answer) where
  abbrev searched : Answer
  searched = first_fault before (record { serial = serial; ended = ended } ∷ ls) fine

  pub fault_here : (f : Fault) → number_of f ≡ line_number before serial ended → searched ≡ refused_at (number_of f) (suc (length before))
  unfolding first_fault
  fault_here f e = rw (← e) (given f (suc (length before)) _)

  pub fault_later : 0 ≡ line_number before serial ended → searched ≡ first_fault (before ++ (serial ∷ [])) ls fine
  unfolding first_fault
  fault_later e = rw (← e)

-- ---- a line that passes
module _ (before : List (List ℕ)) (serial : List ℕ) (ended : Bool) (e : 0 ≡ line_number before serial ended) where
  pub fine_length : length serial ≤ 20
  unfolding line_number
  fine_length =
      let passed = none_applies (line_refusals before record { serial = serial; ended = ended }) refl (sym e) in
      ltb-false 20 (length serial) (either_false (eqb (length serial) 0) _ passed.1.0).1

  pub fine_slot : length before < 257
  unfolding line_number
  fine_slot =
      let passed = none_applies (line_refusals before record { serial = serial; ended = ended }) refl (sym e) in
      ltb-false 257 (suc (length before)) passed.1.1.1.1.0

-- no fault has the number 0
pub not_zero : (f : Fault) → number_of f ≢ 0
not_zero BadCharacter e = omega arith
not_zero BadLength e = omega arith
not_zero NoLineFeed e = omega arith
not_zero Repeated e = omega arith
not_zero PastLast e = omega arith

-- ---- where there is a fault, what is answered for none does not matter
step_some : (k line : ℕ) {next next' : Answer} → (next.number ≢ 0 → next' ≡ next) → (unless_faulty k line next).number ≢ 0
    → unless_faulty k line next' ≡ unless_faulty k line next
step_some zero line rest n = rest n
step_some (suc k) line rest n = refl

module _ (fine other : Answer) where
  pub some_found : fine.number ≡ 0 → (before : List (List ℕ)) (ls : List Line) → (first_fault before ls fine).number ≢ 0
      → first_fault before ls other ≡ first_fault before ls fine
  unfolding first_fault
  some_found none before [] n = absurd (n none)
  some_found none before (l ∷ ls) n = step_some (line_number before l.serial l.ended) (suc (length before)) (some_found none (before ++ (l.serial ∷ [])) ls) n
