-- P and Q set in passes over pages of columns, for any numbers.
use Rattle.std.specs.Prelude.{ℕ, ◌+◌, ◌%◌, ◌≤◌, ◌<◌, ◌≡◌, ◌⊎◌, Bool, List, eqb, ltb, length}
use Rattle.base.specs.Choice.{choose, both}
use Rattle.column.specs.Column.{Column, put, encode_column, reed_solomon}
use Rattle.shape.specs.declared.Geometry.{Geometry}
use Rattle.shape.specs.Layout.{column, lift}
use Rattle.shape.specs.Refusals.{encode_refusal}
use Rattle.sums.specs.Sums.{tail_p, tail_q}

abbrev pub page : ℕ
page = 4096

-- a stripe is for passes: it has more than 6 disks, and its blocks are whole pages
abbrev pub in_passes : Geometry → Bool
in_passes g = both (ltb 6 g.n) (eqb (g.b % page) 0)

-- every column encoded; the buffer as it was where it is no stripe, or not one for passes
abbrev pub parities_set : Geometry → List ℕ → List ℕ
parities_set g s = choose (both (eqb (encode_refusal g (length s)) 0) (in_passes g)) (lift g (λ i c. encode_column reed_solomon g.n c) s) s

-- ---- what private functions suppose and promise; no public contract rests on the rest
-- a column whose P and Q hold the sums over the disks from k on; the column itself where there are no such disks
abbrev pub stage : ℕ → ℕ → Column → Column
stage n k c = choose (eqb k n) c (put n (tail_p n k c) (put (n + 1) (tail_q n k c) c))

-- the w columns from i on are those of f at this stage
abbrev pub Staged : Geometry → ℕ → ℕ → ℕ → (ℕ → Column) → List ℕ → Type 0
Staged g i w k f s = (j : ℕ) → j < w → column g s (i + j) ≡ stage g.n k (f j)

-- a pass over w columns, from the sums over the disks from `to` on to those from `from` on; the other columns stay
pub record Passed (g : Geometry) (i w from to : ℕ) (s t : List ℕ) : Type 0 where
  pub kept : length t ≡ length s
  pub within : (f : ℕ → Column) → Staged g i w to f s → Staged g i w from f t
  pub outside : (c : ℕ) → c < g.b → (c < i) ⊎ (i + w ≤ c) → column g t c ≡ column g s c
