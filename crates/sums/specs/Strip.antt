-- A strip of columns: as many as are summed together where the disks are many. What its sums are, for any numbers.
use Rattle.std.specs.Prelude.{ℕ, ◌+◌, ◌-◌, ◌≤◌, ◌<◌, ◌≡◌, ◌⊎◌, ◌*◌, Bool, List, eqb, ltb, leb, length, map}
use Rattle.std.specs.List.{range_with_len}
use Rattle.base.specs.Choice.{choose, both, either}
use Rattle.chunk.specs.Chunk.{width, each}
use Rattle.chunk.specs.declared.Sums.{Sums}
use Rattle.column.specs.Column.{Column}
use Rattle.losses.specs.Losses.{without}
use Rattle.shape.specs.declared.Geometry.{Geometry}
use Rattle.shape.specs.Layout.{column}
use Rattle.shape.specs.Refusals.{encode_refusal, WellShaped}
use Rattle.stretch.specs.Stretch.{column_of}
use Rattle.sums.specs.Sums.{sums_of, tail_p, tail_q, Tails}

-- the chunks of a strip, and its columns
abbrev pub chunks : ℕ
chunks = 8

abbrev pub strip : ℕ
strip = chunks * width

-- a stripe is worked on in strips: it has more than 64 disks and a strip of columns
abbrev pub in_strips : Geometry → Bool
in_strips g = both (ltb 64 g.n) (leb strip g.b)

-- a buffer of this length is a stripe with these columns
abbrev pub has_strip : Geometry → ℕ → ℕ → Bool
has_strip g len i = both (eqb (encode_refusal g len) 0) (both (leb strip g.b) (leb i (g.b - strip)))

-- the columns of chunk m of a strip, without the roles x and y
abbrev pub strip_columns : Geometry → List ℕ → ℕ → ℕ → ℕ → ℕ → ℕ → Column
strip_columns g s i x y m j = without x y (column_of g s (i + width * m) width j)

-- what f makes of the columns of each chunk
abbrev pub over_strip : Geometry → List ℕ → ℕ → ℕ → ℕ → ((ℕ → Column) → Sums) → List Sums
over_strip g s i x y f = map (λ m. f (strip_columns g s i x y m)) (range_with_len 0 chunks)

-- a becomes P* and Q* of each chunk of a strip, and stays where the stripe has not these columns
abbrev pub StripSummed : Geometry → ℕ → ℕ → ℕ → List ℕ → List Sums → List Sums → Type 0
StripSummed g i x y s a b = b ≡ choose (has_strip g (length s) i) (over_strip g s i x y (sums_of g.n)) a

-- ---- what private functions suppose and promise; no public contract rests on the rest
pub record HasStrip (g : Geometry) (s : List ℕ) (i : ℕ) : Type 0 where
  pub shaped : WellShaped g s
  pub fits : i + strip ≤ g.b

-- the sums over the disks from k on in each column of a chunk; below the last disk the stored parities are added
abbrev pub staged : ℕ → ℕ → (ℕ → Column) → Sums
staged n k f = choose (eqb k 0) (sums_of n f) (record { p = each (λ j. tail_p n k (f j)); q = each (λ j. tail_q n k (f j)) })

-- a role is none of those from `from` to below `to`
abbrev pub outside : ℕ → ℕ → ℕ → Bool
outside role from to = either (ltb role from) (leb to role)

-- neither x nor y is, and there are disks below these
abbrev pub plain_group : ℕ → ℕ → ℕ → ℕ → Bool
plain_group x y from to = both (outside x from to) (both (outside y from to) (ltb 0 from))

-- a group of disks is added to those above it
abbrev pub GroupAdded : Geometry → ℕ → ℕ → ℕ → ℕ → ℕ → List ℕ → Sums → Sums → Type 0
GroupAdded g i x y from to s a b =
    let f : ℕ → Column = λ j. without x y (column_of g s i width j) in Tails g.n to f a → b ≡ staged g.n from f

-- so are those of them above a lost disk, and the lost one as 00, or none where it is none of them; r is the first that is done
pub record AddedWithin (g : Geometry) (i lost from to : ℕ) (s : List ℕ) (a : Sums) (r : ℕ) (b : Sums) : Type 0 where
  pub below : (lost < from) ⊎ (r ≤ lost)
  pub within : r ≤ to
  pub above : from ≤ r
  pub sums : (f : ℕ → Column) → ((j k : ℕ) → j < width → from ≤ k → lost < k → k < to → f j k ≡ column g s (i + j) k) → ((j : ℕ) → j < width → f j lost ≡ 0)
      → Tails g.n to f a
      → Tails g.n r f b
