-- A chunk: as many bytes of a block as are worked on at a time. What is done with chunks is done place by place.
use Rattle.std.specs.Prelude.{ℕ, zero, suc, ◌<◌, ◌≡◌, Bool, true, List, eqb, ltb, length, get_or}
use Rattle.base.specs.Choice.{choose, both}
use Rattle.base.specs.Table.{tabulate}
use Rattle.gf256.specs.Field.{sum, double}

abbrev pub width : ℕ
width = 128

-- the chunk whose place j holds f j
abbrev pub each : (ℕ → ℕ) → List ℕ
each f = tabulate width f

-- the first w places hold f
abbrev pub Holds : ℕ → (ℕ → ℕ) → List ℕ → Type 0
Holds w f l = (j : ℕ) → j < w → get_or l j 0 ≡ f j

-- a list with as much of a chunk in front as there is room for
abbrev pub stored : List ℕ → List ℕ → List ℕ
stored to c = tabulate (length to) (λ j. choose (ltb j width) (get_or c j 0) (get_or to j 0))

abbrev pub plus : List ℕ → List ℕ → List ℕ
plus a d = each (λ j. sum (get_or a j 0) (get_or d j 0))

abbrev pub double_plus : List ℕ → List ℕ → List ℕ
double_plus q d = each (λ j. sum (double (get_or q j 0)) (get_or d j 0))

-- whether the places below n of both hold 0
unfoldable pub zeros : ℕ → List ℕ → List ℕ → Bool
zeros zero p q = true
zeros (suc n) p q = both (eqb (get_or q n 0) 0) (both (eqb (get_or p n 0) 0) (zeros n p q))

abbrev pub all_zero : List ℕ → List ℕ → Bool
all_zero = zeros width
