-- What a fitter who asks for a serial is answered: its slot in the roster that a text holds, or why the text holds none.
use Rattle.std.specs.Prelude.{ℕ, zero, suc, ◌≡◌, Option, List, length, get_or}
use Rattle.serials.specs.Serials.{serials}
use Rattle.serials.specs.LookUp.{look_up}
use Rattle.roster.specs.Text.{line_ends}
use Rattle.roster.specs.Calls.{read_answer, begun_with}
use Rattle.roster_answer.specs.Words.{found_line, refused_line}

-- what was found in a text that was read; of one that was refused, its number and its line
abbrev pub told : ℕ → List ℕ → Option ℕ → List ℕ
told zero values found = found_line found
told (suc k) values found = refused_line (suc k) (get_or values 0 0)

unfoldable pub answer_text : List ℕ → List ℕ → List ℕ
answer_text text asked = told (read_answer text).number (read_answer text).values (look_up (serials text (line_ends text)) asked)

-- What a call leaves that answers with new bytes: they stand whole at the output's start, their length is returned, and the rest of the output is left.
pub record Begins (new before : List ℕ) (r : ℕ) (after : List ℕ) : Type 0 where
  pub count : r ≡ length new
  pub output : after ≡ begun_with new before
