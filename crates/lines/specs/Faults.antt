-- The faults of a roster: the tests of a line in their order, and the search for the first line that fails one.
use Rattle.std.specs.Prelude.{ℕ, zero, suc, Bool, not, Result, Ok, Err, is_some, List, [], ◌∷◌, ◌++◌, eqb, ltb, length}
use Rattle.base.specs.Choice.{either}
use Rattle.base.specs.Refusal.{Refusal, first_of, Answer}
use Rattle.serials.specs.LookUp.{look_up}
use Rattle.lines.specs.declared.Fault.{Fault}
use Rattle.lines.specs.declared.Fault.TheVariants.{BadCharacter, BadLength, NoLineFeed, Repeated, PastLast}
use Rattle.lines.specs.Lines.{Line, has_bad}

-- the paper's numbers
abbrev pub number_of : Fault → ℕ
number_of BadCharacter = 30
number_of BadLength = 31
number_of NoLineFeed = 32
number_of Repeated = 33
number_of PastLast = 34

abbrev pub judged_number : Result Unit Fault → ℕ
judged_number (Ok done) = 0
judged_number (Err f) = number_of f

-- the tests of a line that stands after lines with these serials
abbrev pub line_refusals : List (List ℕ) → Line → List Refusal
line_refusals before l =
    record { number = 30; applies = has_bad l.serial }
    ∷ record { number = 31; applies = either (eqb (length l.serial) 0) (ltb 20 (length l.serial)) }
    ∷ record { number = 32; applies = not l.ended }
    ∷ record { number = 33; applies = is_some (look_up before l.serial) }
    ∷ record { number = 34; applies = ltb 257 (suc (length before)) }
    ∷ []

unfoldable pub line_number : List (List ℕ) → List ℕ → Bool → ℕ
line_number before serial ended = first_of (line_refusals before record { serial = serial; ended = ended })

-- a refusal is answered with its line, counted from 1
abbrev pub refused_at : ℕ → ℕ → Answer
refused_at k line = record { number = k; values = line ∷ [] }

abbrev pub unless_faulty : ℕ → ℕ → Answer → Answer
unless_faulty zero line next = next
unless_faulty (suc k) line next = refused_at (suc k) line

-- the first fault of some lines that stand after lines with these serials, or another answer where they have none
unfoldable pub first_fault : List (List ℕ) → List Line → Answer → Answer
first_fault before [] fine = fine
first_fault before (l ∷ ls) fine =
    unless_faulty (line_number before l.serial l.ended) (suc (length before)) (first_fault (before ++ (l.serial ∷ [])) ls fine)
