-- What a step of the code does to the columns of a stripe.
use Rattle.std.specs.Prelude.{◌≡◌, ℕ, ◌+◌, ◌<◌, ◌≤◌, ◌⊎◌, List, length}
use Rattle.column.specs.Column.{Column}
use Rattle.shape.specs.declared.Geometry.{Geometry}
use Rattle.shape.specs.Layout.{column}

-- the w columns from i on are changed, column i + j by f j; the others stay
pub record ColumnsMapped (g : Geometry) (i w : ℕ) (f : ℕ → Column → Column) (s t : List ℕ) : Type 0 where
  pub kept : length t ≡ length s
  pub within : (j : ℕ) → j < w → column g t (i + j) ≡ f j (column g s (i + j))
  pub outside : (c : ℕ) → c < g.b → (c < i) ⊎ (i + w ≤ c) → column g t c ≡ column g s c
