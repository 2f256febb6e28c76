-- Serials as they are lent: bytes, and for each slot the place where its serial ends. The first begins at place 0, each other one byte after the
-- end before it. Any bytes and any places are some serials: an end before the serial's beginning makes it empty, and one past the bytes ends it
-- with them.
use Rattle.std.specs.Prelude.{ℕ, suc, ◌-◌, List, [], ◌∷◌, take, drop}

-- those that begin at a place
unfoldable pub serials_from : ℕ → List ℕ → List ℕ → List (List ℕ)
serials_from start chars [] = []
serials_from start chars (end ∷ ends) = take (end - start) (drop start chars) ∷ serials_from (suc end) chars ends

abbrev pub serials : List ℕ → List ℕ → List (List ℕ)
serials chars ends = serials_from 0 chars ends
