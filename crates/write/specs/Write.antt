-- What a write answers and leaves in the stripe, refused or done.
use Rattle.std.specs.Prelude.{ℕ, ◌+◌, ◌-◌, ◌≡◌, Bool, List, ltb, leb, length, get_or}
use Rattle.base.specs.Choice.{choose, both}
use Rattle.base.specs.Refusal.{unless_refused}
use Rattle.column.specs.Column.{reed_solomon, write_column}
use Rattle.shape.specs.declared.Geometry.{Geometry}
use Rattle.shape.specs.Layout.{lift}
use Rattle.shape.specs.Refusals.{write_refusal}

-- the columns that a write of count bytes at an offset covers
abbrev pub covers : ℕ → ℕ → ℕ → Bool
covers offset count i = both (leb offset i) (ltb i (offset + count))

-- the stripe after a write that is not refused
abbrev pub written : Geometry → ℕ → ℕ → List ℕ → List ℕ → List ℕ
written g disk offset new s =
    lift g
    (λ i c. choose (covers offset (length new) i) (write_column reed_solomon g.n disk (get_or new (i - offset) 0) c) c)
    s

-- the stripe after a call
unfoldable pub after_write : Geometry → ℕ → ℕ → List ℕ → List ℕ → List ℕ
after_write g disk offset new s =
    unless_refused (write_refusal g (length s) disk offset (length new)) (written g disk offset new s) s

-- the contract: the result r and the final stripe, each equal to its definition
pub record WriteCall (g : Geometry) (disk offset : ℕ) (new before : List ℕ) (r : ℕ) (after : List ℕ) : Type 0 where
  pub result : r ≡ write_refusal g (length before) disk offset (length new)
  pub stripe : after ≡ after_write g disk offset new before
