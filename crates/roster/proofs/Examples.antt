-- The request's words at texts that the definitions compute: which number and which line, and what is no line.
-- Assumes nothing.
use mathlib.Core.Path.{◌≡◌, refl}
use mathlib.Core.List.{List, [], ◌∷◌}
use Prim.Native.Nat.{ℕ, zero, suc, ◌+◌, ◌/◌, ◌%◌}
use Rattle.std.specs.Prelude.{Some, None, Ok, Err}
use Rattle.serials.specs.Bytes.{bytes}
use Rattle.serials.specs.Serials.{serials, serials_from}
use Rattle.serials.specs.LookUp.{look_up, look_up_from}
use Rattle.lines.specs.declared.Fault.TheVariants.{BadCharacter, BadLength, NoLineFeed, Repeated, PastLast}
use Rattle.lines.specs.Lines.{lines}
use Rattle.lines.specs.Faults.{line_number, first_fault}
use Rattle.roster.specs.Text.{roster_text, ends_from, line_ends}
use Rattle.roster.specs.Calls.{read_of, read_answer}

-- an empty text is a roster of no slots
pub empty : read_answer [] ≡ read_of (Ok 0)
unfolding read_answer lines first_fault
empty = refl

pub two_slots : read_answer (bytes "11\n1\n") ≡ read_of (Ok 2)
unfolding read_answer lines first_fault line_number look_up_from
two_slots = refl

-- a bad character goes before the length: these are 21 characters
pub bad_and_overlong : read_answer (bytes "abcdefghijklmnopqrstu\n") ≡ read_of (Err record { fault = BadCharacter; line = 1 })
unfolding read_answer lines first_fault line_number
bad_and_overlong = refl

pub overlong : read_answer (bytes "ABCDEFGHIJKLMNOPQRSTU\n") ≡ read_of (Err record { fault = BadLength; line = 1 })
unfolding read_answer lines first_fault line_number
overlong = refl

pub empty_line : read_answer (bytes "A\n\n") ≡ read_of (Err record { fault = BadLength; line = 2 })
unfolding read_answer lines first_fault line_number look_up_from
empty_line = refl

pub no_line_feed : read_answer (bytes "A") ≡ read_of (Err record { fault = NoLineFeed; line = 1 })
unfolding read_answer lines first_fault line_number
no_line_feed = refl

-- a missing line feed goes before an earlier line's serial
pub no_line_feed_and_repeated : read_answer (bytes "A\nA") ≡ read_of (Err record { fault = NoLineFeed; line = 2 })
unfolding read_answer lines first_fault line_number look_up_from
no_line_feed_and_repeated = refl

pub repeated : read_answer (bytes "A\nA\n") ≡ read_of (Err record { fault = Repeated; line = 2 })
unfolding read_answer lines first_fault line_number look_up_from
repeated = refl

-- the earliest faulty line, though a later one has a lower number
pub earliest : read_answer (bytes "A\nA\na\n") ≡ read_of (Err record { fault = Repeated; line = 2 })
unfolding read_answer lines first_fault line_number look_up_from
earliest = refl

-- ---- look-ups in what was read
pub eleven_for_one : look_up (serials (bytes "1\n") (line_ends (bytes "1\n"))) (bytes "11") ≡ None
unfolding serials_from ends_from lines look_up_from
eleven_for_one = refl

pub one_after_eleven : look_up (serials (bytes "11\n1\n") (line_ends (bytes "11\n1\n"))) (bytes "1") ≡ Some 1
unfolding serials_from ends_from lines look_up_from
one_after_eleven = refl

-- ---- 257 lines are a roster, and a line past them is refused; the serials are those of two letters, in their order from AA
abbrev pub pair : ℕ → List ℕ
pair k = (65 + k / 26) ∷ (65 + k % 26) ∷ []

abbrev pub pairs : ℕ → ℕ → List (List ℕ)
pairs k zero = []
pairs k (suc n) = pair k ∷ pairs (suc k) n

pub most_lines : read_answer (roster_text (pairs 0 257)) ≡ read_of (Ok 257)
unfolding read_answer lines first_fault line_number look_up_from roster_text
most_lines = refl

pub past_last : read_answer (roster_text (pairs 0 258)) ≡ read_of (Err record { fault = PastLast; line = 258 })
unfolding read_answer lines first_fault line_number look_up_from roster_text
past_last = refl
