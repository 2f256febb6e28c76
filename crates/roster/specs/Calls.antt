-- What the reader and the writer answer, and what they leave in every buffer that they are lent, refused or done.
use Rattle.std.specs.Prelude.{ℕ, ◌≡◌, true, Result, Ok, Err, List, [], ◌∷◌, ◌++◌, map, ltb, length, drop}
use Rattle.base.specs.Choice.{choose}
use Rattle.base.specs.Refusal.{Answer, unless_refused}
use Rattle.roster.specs.declared.FaultyLine.{FaultyLine}
use Rattle.roster.specs.declared.WriteError.{WriteError}
use Rattle.roster.specs.declared.WriteError.TheVariants.{Faulty, NoRoom}
use Rattle.lines.specs.Lines.{Line, lines}
use Rattle.lines.specs.Faults.{number_of, refused_at, first_fault}
use Rattle.roster.specs.Text.{roster_text, line_ends}

-- The answers in the paper's numbers: with 0 comes the number of slots, or the text's length; with a refusal, its line.
abbrev pub done : ℕ → Answer
done n = record { number = 0; values = n ∷ [] }

abbrev pub faulty_answer : FaultyLine → Answer
faulty_answer e = refused_at (number_of e.fault) e.line

abbrev pub read_of : Result ℕ FaultyLine → Answer
read_of (Ok n) = done n
read_of (Err e) = faulty_answer e

abbrev pub written_of : Result ℕ WriteError → Answer
written_of (Ok n) = done n
written_of (Err (Faulty e)) = faulty_answer e
written_of (Err NoRoom) = refused_at 35 0

-- ---- the reader
unfoldable pub read_answer : List ℕ → Answer
read_answer text = first_fault [] (lines text) (done (length (lines text)))

-- ---- the writer: its serials are judged as lines that are ended, and then the room for their text
abbrev pub as_line : List ℕ → Line
as_line s = record { serial = s; ended = true }

unfoldable pub judge_answer : List (List ℕ) → Answer
judge_answer ss = first_fault [] (map as_line ss) (done (length (roster_text ss)))

abbrev pub room_answer : ℕ → List ℕ → Answer
room_answer room text = choose (ltb room (length text)) (refused_at 35 0) (done (length text))

unfoldable pub write_answer : List (List ℕ) → ℕ → Answer
write_answer ss room = first_fault [] (map as_line ss) (room_answer room (roster_text ss))

-- new numbers at the start of a buffer
abbrev pub begun_with : List ℕ → List ℕ → List ℕ
begun_with new old = new ++ drop (length new) old

-- ---- the contracts: the answer and the final buffer, each equal to its definition
pub record ReadCall (text before : List ℕ) (r : Result ℕ FaultyLine) (after : List ℕ) : Type 0 where
  pub answer : read_of r ≡ read_answer text
  pub ends : after ≡ unless_refused (read_answer text).number (begun_with (line_ends text) before) before

pub record WriteCall (ss : List (List ℕ)) (before : List ℕ) (r : Result ℕ WriteError) (after : List ℕ) : Type 0 where
  pub answer : written_of r ≡ write_answer ss (length before)
  pub output : after ≡ unless_refused (write_answer ss (length before)).number (begun_with (roster_text ss) before) before
