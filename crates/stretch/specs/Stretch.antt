-- A stretch of columns, for any numbers: what stands there, and the stripe once the bytes of one role there are set.
use Rattle.std.specs.Prelude.{ℕ, ◌≡◌, ◌+◌, ◌-◌, ◌≤◌, ◌<◌, Bool, List, eqb, ltb, leb, length, get_or}
use Rattle.base.specs.Choice.{choose, both}
use Rattle.base.specs.Table.{tabulate, spliced}
use Rattle.chunk.specs.Chunk.{width}
use Rattle.column.specs.Column.{Column}
use Rattle.shape.specs.declared.Geometry.{Geometry}
use Rattle.shape.specs.Layout.{start, column}
use Rattle.shape.specs.Refusals.{encode_refusal, WellShaped}

-- a buffer of this length is a stripe with the w columns from i on, and a chunk can hold them
abbrev pub has_columns : Geometry → ℕ → ℕ → ℕ → Bool
has_columns g len i w = both (eqb (encode_refusal g len) 0) (both (leb w g.b) (both (leb i (g.b - w)) (leb w width)))

-- the same as facts: what private functions suppose; no public contract rests on it
pub record Has (g : Geometry) (s : List ℕ) (i w : ℕ) : Type 0 where
  pub shaped : WellShaped g s
  pub fits : i + w ≤ g.b
  pub held : w ≤ width

-- column i + j for the j below w, and 00 behind them; all 00 where the stripe has not these columns
unfoldable pub column_of : Geometry → List ℕ → ℕ → ℕ → ℕ → Column
column_of g s i w j r = choose (both (has_columns g (length s) i w) (ltb j w)) (column g s (i + j) r) 0

-- it has these columns and the role
abbrev pub has_stretch : Geometry → ℕ → ℕ → ℕ → ℕ → Bool
has_stretch g len role i w = both (has_columns g len i w) (ltb role (g.n + 2))

-- the stripe with the first w bytes of a chunk on a role in these columns; what it was where it has not these
abbrev pub set_on : Geometry → ℕ → ℕ → ℕ → List ℕ → List ℕ → List ℕ
set_on g role i w new s =
    choose (has_stretch g (length s) role i w) (spliced s (start g role + i) (tabulate w (λ j. get_or new j 0))) s

-- the bytes of a role in these columns begin at this place of the buffer: what private functions give
pub record PlacedAt (g : Geometry) (s : List ℕ) (role i w at : ℕ) : Type 0 where
  pub has : Has g s i w
  pub known : role < g.n + 2
  pub is : at ≡ start g role + i
  pub ends : at + w ≤ length s
