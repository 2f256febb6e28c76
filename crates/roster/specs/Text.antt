-- The text of a roster: each serial with a line feed after it; and where the lines of a text end.
use Rattle.std.specs.Prelude.{ℕ, suc, ◌+◌, List, [], ◌∷◌, ◌++◌, eqb, length}
use Rattle.std.specs.List.{position_or_len}
use Rattle.lines.specs.Lines.{Line, line_feed, lines}

unfoldable pub roster_text : List (List ℕ) → List ℕ
roster_text [] = []
roster_text (s ∷ ss) = s ++ (line_feed ∷ roster_text ss)

-- the place of the first such byte, or the length where there is none
abbrev pub index_of : ℕ → List ℕ → ℕ
index_of b t = position_or_len (λ c. eqb c b) t

-- the end of each line, where the first begins at a place
unfoldable pub ends_from : ℕ → List Line → List ℕ
ends_from start [] = []
ends_from start (l ∷ ls) = (start + length l.serial) ∷ ends_from (suc (start + length l.serial)) ls

abbrev pub line_ends : List ℕ → List ℕ
line_ends text = ends_from 0 (lines text)
