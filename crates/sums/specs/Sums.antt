-- The sums over the disks in a chunk of columns: what they are, and the steps of Horner's rule.
use Rattle.std.specs.Prelude.{ℕ, ◌+◌, ◌-◌, ◌≤◌, ◌<◌, ◌≡◌, List}
use Rattle.gf256.specs.Field.{product, power}
use Rattle.chunk.specs.Chunk.{width, each, plus}
use Rattle.column.specs.Column.{Column, total, parity_p, parity_q, syndrome_p, syndrome_q, reed_solomon}
use Rattle.shape.specs.declared.Geometry.{Geometry}
use Rattle.shape.specs.Layout.{column}
use Rattle.chunk.specs.declared.Sums.{Sums}

-- the right sides of equations 1 and 2 in each column
abbrev pub parities_of : ℕ → (ℕ → Column) → Sums
parities_of n f = record { p = each (λ j. parity_p n (f j)); q = each (λ j. parity_q reed_solomon n (f j)) }

-- P* and Q* of each column
abbrev pub sums_of : ℕ → (ℕ → Column) → Sums
sums_of n f = record { p = each (λ j. syndrome_p n (f j)); q = each (λ j. syndrome_q reed_solomon n (f j)) }

-- ---- Horner's rule (equation 21), from the highest disk down; no public contract rests on the rest
-- f k + f (k+1) + ... + f (n-1), and 02^0·f k + 02^1·f (k+1) + ... + 02^(n-1-k)·f (n-1)
abbrev pub tail_p : ℕ → ℕ → (ℕ → ℕ) → ℕ
tail_p n k f = total (n - k) (λ j. f (k + j))

abbrev pub tail_q : ℕ → ℕ → (ℕ → ℕ) → ℕ
tail_q n k f = total (n - k) (λ j. product (power 2 j) (f (k + j)))

-- a holds these sums of each column
pub record Tails (n k : ℕ) (f : ℕ → Column) (a : Sums) : Type 0 where
  pub first : a.p ≡ each (λ j. tail_p n k (f j))
  pub second : a.q ≡ each (λ j. tail_q n k (f j))

-- the bytes of f on P and Q are added to a, each to its sum, which becomes b
abbrev pub StoredAdded : ℕ → (ℕ → Column) → Sums → Sums → Type 0
StoredAdded n f a b = (b.p ≡ plus a.p (each (λ j. f j n))) × (b.q ≡ plus a.q (each (λ j. f j (n + 1))))

-- the columns f are the stripe's on the disks from `from` to below `to`
abbrev pub Agrees : Geometry → ℕ → ℕ → ℕ → List ℕ → (ℕ → Column) → Type 0
Agrees g i from to s f = (j k : ℕ) → j < width → from ≤ k → k < to → f j k ≡ column g s (i + j) k

-- a holds the highest disk alone
abbrev pub HighestAdded : Geometry → ℕ → List ℕ → Sums → Type 0
HighestAdded g i s a = (f : ℕ → Column) → Agrees g i (g.n - 1) g.n s f → Tails g.n (g.n - 1) f a

-- these disks are added to a, which becomes b
abbrev pub DisksAdded : Geometry → ℕ → ℕ → ℕ → List ℕ → Sums → Sums → Type 0
DisksAdded g i from to s a b =
    (f : ℕ → Column) → Agrees g i from to s f → Tails g.n to f a → Tails g.n from f b

-- so are those above a lost disk, and the lost one as 00; r is the first that is done
pub record AddedAbove (g : Geometry) (i lost to : ℕ) (s : List ℕ) (a : Sums) (r : ℕ) (b : Sums) : Type 0 where
  pub below : r ≤ lost
  pub within : r ≤ to
  pub above : (k : ℕ) → k ≤ lost → k ≤ to → k ≤ r
  pub sums : (f : ℕ → Column) → Agrees g i (lost + 1) to s f → ((j : ℕ) → j < width → f j lost ≡ 0) → Tails g.n to f a
      → Tails g.n r f b
