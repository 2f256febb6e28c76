-- What a line of a roster text is. A line feed ends a line. What stands after the last line feed is a line too, one that is not ended; where nothing
-- stands there, there is no such line, so that an empty text has none. A line's serial is what stands before its line feed, or before the text's end.
use Rattle.std.specs.Prelude.{ℕ, Bool, true, false, not, List, [], ◌∷◌, eqb, leb}
use Rattle.base.specs.Choice.{choose, both, either}

pub record Line : Type 0 where
  pub serial : List ℕ
  pub ended : Bool

abbrev pub line_feed : ℕ
line_feed = 10

-- a byte in front of the first line; where there is no line, it is one by itself
abbrev pub begun : ℕ → List Line → List Line
begun c [] = record { serial = c ∷ []; ended = false } ∷ []
begun c (l ∷ ls) = record { serial = c ∷ l.serial; ended = l.ended } ∷ ls

unfoldable pub lines : List ℕ → List Line
lines [] = []
lines (c ∷ t) = choose (eqb c line_feed) (record { serial = []; ended = true } ∷ lines t) (begun c (lines t))

-- a digit or a capital letter: 0 to 9, or A to Z
abbrev pub is_character : ℕ → Bool
is_character c = either (both (leb 48 c) (leb c 57)) (both (leb 65 c) (leb c 90))

abbrev pub has_bad : List ℕ → Bool
has_bad [] = false
has_bad (c ∷ s) = either (not (is_character c)) (has_bad s)
