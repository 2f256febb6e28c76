-- Which line is refused: the earliest that fails a test, with the first test that it fails. Slots are counted from 0, and lines from 1.
use Rattle.std.specs.Prelude.{ℕ, suc, ◌<◌, ◌≡◌, false, List, [], map, length, get_or, take}
use Rattle.base.specs.Refusal.{Refusal, first_of}
use Rattle.lines.specs.Lines.{Line}
use Rattle.lines.specs.Faults.{line_refusals}

abbrev pub serials_of : List Line → List (List ℕ)
serials_of ls = map (λ (l : Line). l.serial) ls

abbrev pub no_line : Line
no_line = record { serial = []; ended = false }

-- the tests of the line of slot k
abbrev pub tests_of : List Line → ℕ → List Refusal
tests_of ls k = line_refusals (serials_of (take k ls)) (get_or ls k no_line)

abbrev pub Faultless : List Line → Type 0
Faultless ls = (k : ℕ) → k < length ls → first_of (tests_of ls k) ≡ 0

-- a line is refused with a number: no line before it fails a test, and the first test that it fails has that number
pub record FirstFault (ls : List Line) (line number : ℕ) : Type 0 where
  pub slot : ℕ
  pub counted : line ≡ suc slot
  pub there : slot < length ls
  pub passed : (j : ℕ) → j < slot → first_of (tests_of ls j) ≡ 0
  pub fails : first_of (tests_of ls slot) ≡ number
  pub given : 0 < number
