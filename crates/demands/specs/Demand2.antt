-- What demand 2 says of a rebuild, of the columns that a call may read, and of a verdict.
use Rattle.std.specs.Prelude.{◌≡◌, List, ℕ, ◌+◌, ◌<◌, length}
use Rattle.column.specs.declared.Lost.{Lost}
use Rattle.column.specs.Column.{reed_solomon}
use Rattle.column.specs.Loss.{Spared, Meets}
use Rattle.shape.specs.declared.Geometry.{Geometry}
use Rattle.shape.specs.Layout.{column}
use Rattle.stripe.specs.Calls.{after_rebuild}
use Rattle.demands.specs.Series.{Bytes}

-- what an accepted rebuild promises of the stripe t that it leaves of s
pub record Rebuilt (g : Geometry) (l : Lost) (s t : List ℕ) : Type 0 where
  -- no other device changes
  pub spares : (i r : ℕ) → i < g.b → r < g.n + 2 → Spared g.n l r → column g t i r ≡ column g s i r
  -- the new bytes meet the equations used, with two devices named both
  pub meets : (i : ℕ) → i < g.b → Meets reed_solomon g.n l (column g t i)
  -- and are the only ones that do so with the survivors
  pub only : (u : List ℕ) → Bytes u → length u ≡ length s
      → ((i r : ℕ) → i < g.b → r < g.n + 2 → Spared g.n l r → column g u i r ≡ column g s i r)
      → ((i : ℕ) → i < g.b → Meets reed_solomon g.n l (column g u i))
      → u ≡ t
  -- what stood on the named devices has no influence
  pub blind : (u : List ℕ) → Bytes u → length u ≡ length s
      → ((i r : ℕ) → i < g.b → r < g.n + 2 → Spared g.n l r → column g u i r ≡ column g s i r)
      → after_rebuild g l u ≡ t

-- the stripes s and t have the same column i
abbrev pub SameColumn : Geometry → ℕ → List ℕ → List ℕ → Type 0
SameColumn g i s t = (r : ℕ) → r < g.n + 2 → column g s i r ≡ column g t i r
