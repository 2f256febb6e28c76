-- What the calls answer in numbers alone, and what they leave behind: the answer's number is the result r, and its value is in a place of its own.
use Rattle.std.specs.Prelude.{ℕ, ◌≡◌, Bool, Option, Some, None, is_some, List, [], ◌∷◌, length}
use Rattle.base.specs.Refusal.{Answer, unless_refused}
use Rattle.serials.specs.Serials.{serials}
use Rattle.serials.specs.LookUp.{look_up}
use Rattle.roster.specs.Text.{roster_text, line_ends}
use Rattle.roster.specs.Calls.{read_answer, write_answer, begun_with}

abbrev pub told : ℕ → ℕ → Answer
told r value = record { number = r; values = value ∷ [] }

-- the place of the slot: as it was where none is found
abbrev pub slot_or : ℕ → Option ℕ → ℕ
slot_or before (Some k) = k
slot_or before None = before

-- ---- the contracts: the result, the value and the final buffer, each equal to its definition
pub record ReadNumbers (text before : List ℕ) (r value : ℕ) (after : List ℕ) : Type 0 where
  pub answer : told r value ≡ read_answer text
  pub ends : after ≡ unless_refused (read_answer text).number (begun_with (line_ends text) before) before

pub record WriteNumbers (chars ends before : List ℕ) (r value : ℕ) (after : List ℕ) : Type 0 where
  pub answer : told r value ≡ write_answer (serials chars ends) (length before)
  pub output : after ≡ unless_refused (write_answer (serials chars ends) (length before)).number (begun_with (roster_text (serials chars ends)) before) before

pub record LookUpNumbers (chars ends asked : List ℕ) (before : ℕ) (r : Bool) (slot : ℕ) : Type 0 where
  pub found : r ≡ is_some (look_up (serials chars ends) asked)
  pub place : slot ≡ slot_or before (look_up (serials chars ends) asked)
