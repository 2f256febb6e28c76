-- The answers are told apart by their numbers: each is made again from its number and its value.
-- Assumes nothing.
use mathlib.Core.Path.{◌≡◌, refl, sym, ap, ◌∙◌}
use mathlib.Core.Bool.{false}
use mathlib.Core.Logic.{◌≢◌}
use Prim.Native.Nat.{ℕ}
use borrow.Author.Tests.{eqb-false}
use lib.Dec.{eqb}
use lib.ListN.{get_or}
use Rattle.base.specs.Choice.{choose}
use Rattle.base.specs.Refusal.{Answer}
use Rattle.lines.specs.declared.Fault.{Fault}
use Rattle.lines.specs.declared.Fault.TheVariants.{BadCharacter, BadLength, NoLineFeed, Repeated, PastLast}
use Rattle.lines.specs.Faults.{number_of}
use Rattle.std.specs.Prelude.{Result, Ok, Err}
use Rattle.roster.specs.declared.FaultyLine.{FaultyLine}
use Rattle.roster.specs.declared.WriteError.{WriteError}
use Rattle.roster.specs.declared.WriteError.TheVariants.{Faulty, NoRoom}
use Rattle.roster.specs.Calls.{read_of, written_of}

abbrev fault_of : ℕ → Fault
fault_of n = choose (eqb n 30) BadCharacter (choose (eqb n 31) BadLength (choose (eqb n 32) NoLineFeed (choose (eqb n 33) Repeated PastLast)))

fault_back : (f : Fault) → (eqb (number_of f) 0 ≡ false) × (eqb (number_of f) 35 ≡ false) × (fault_of (number_of f) ≡ f)
fault_back BadCharacter = (refl, refl, refl)
fault_back BadLength = (refl, refl, refl)
fault_back NoLineFeed = (refl, refl, refl)
fault_back Repeated = (refl, refl, refl)
fault_back PastLast = (refl, refl, refl)

pub not_35 : (f : Fault) → number_of f ≢ 35
not_35 f = eqb-false (number_of f) 35 (fault_back f).1

-- the fault and its line
abbrev faulty_of : Answer → FaultyLine
faulty_of a = record { fault = fault_of a.number; line = get_or a.values 0 0 }

-- ---- the reader's
abbrev reading_of : Answer → Result ℕ FaultyLine
reading_of a = choose (eqb a.number 0) (Ok (get_or a.values 0 0)) (Err (faulty_of a))

reading_back : (r : Result ℕ FaultyLine) → reading_of (read_of r) ≡ r
reading_back (Ok n) = refl
reading_back (Err e) = let back = fault_back e.fault in rw (back.0, back.2)

pub read_apart : (r t : Result ℕ FaultyLine) → read_of r ≡ read_of t → r ≡ t
read_apart r t e = sym (reading_back r) ∙ ap reading_of e ∙ reading_back t

-- ---- the writer's
abbrev written_by : Answer → Result ℕ WriteError
written_by a =
    choose (eqb a.number 0) (Ok (get_or a.values 0 0)) (Err (choose (eqb a.number 35) NoRoom (Faulty (faulty_of a))))

written_back : (r : Result ℕ WriteError) → written_by (written_of r) ≡ r
written_back (Ok n) = refl
written_back (Err (Faulty e)) = let back = fault_back e.fault in rw (back.0, back.1, back.2)
written_back (Err NoRoom) = refl

pub written_apart : (r t : Result ℕ WriteError) → written_of r ≡ written_of t → r ≡ t
written_apart r t e = sym (written_back r) ∙ ap written_by e ∙ written_back t
