-- How a stripe lies in its buffer: the place of each role in each column, and how a function on columns is lifted to the buffer.
use Rattle.std.specs.Prelude.{ℕ, ◌+◌, ◌-◌, ◌*◌, ◌/◌, ◌%◌, List, length, slice_index}
use Rattle.base.specs.Table.{tabulate}
use Rattle.column.specs.Column.{Column}
use Rattle.shape.specs.declared.Geometry.{Geometry}

-- n data disks with blocks of b bytes
abbrev pub geometry : ℕ → ℕ → Geometry
geometry n b = record { n = n; b = b }

-- The block of role r starts at r·B: data disk k at k·B, P at n·B, Q at (n+1)·B.
unfoldable pub start : Geometry → ℕ → ℕ
start g r = r * g.b

-- the same of the low 32 bits of r and of B
abbrev pub low_start : Geometry → ℕ → ℕ
low_start g r = start (geometry g.n (g.b % 4294967296)) (r % 4294967296)

-- the place in the block of the role before that is the same as `at` in the block of a role, modulo 2^64
abbrev pub place_before : Geometry → ℕ → ℕ
place_before g at = (at + (18446744073709551616 - g.b)) % 18446744073709551616

-- the length of the whole stripe
abbrev pub size : Geometry → ℕ
size g = (g.n + 2) * g.b

-- column i
abbrev pub column : Geometry → List ℕ → ℕ → Column
column g s i r = slice_index s (start g r + i)

-- the role whose block has place j, and the column of place j
unfoldable pub role_at : Geometry → ℕ → ℕ
role_at g j = j / g.b

unfoldable pub column_at : Geometry → ℕ → ℕ
column_at g j = j % g.b

-- Every column i becomes f i of what it was.
unfoldable pub lift : Geometry → (ℕ → Column → Column) → List ℕ → List ℕ
lift g f s = tabulate (length s) (λ j. f (column_at g j) (column g s (column_at g j)) (role_at g j))
