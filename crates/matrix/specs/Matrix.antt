-- Matrices of eight rows and eight columns over two elements, as document 01 writes them down: a row is a byte, and column c is its bit of weight 2 ^ c.
-- A vector is a byte in the same way. Assumes nothing.
use Rattle.std.specs.Prelude.{◌≡◌, Bool, not, ◌||◌, List, ℕ, ◌*◌, ◌/◌, ◌%◌, ◌^◌, ◌<◌, eqb, get_or}
use Rattle.std.specs.Int.Bits.{bit_xor}
use Rattle.base.specs.Table.{tabulate}
use Rattle.matrix.specs.Fold.{sum, all}

-- the rows
abbrev pub Matrix : Type 0
Matrix = List ℕ

-- the bit of weight 2 ^ c
abbrev pub bit : ℕ → ℕ → ℕ
bit x c = x / 2 ^ c % 2

-- row r of a matrix, as a byte
abbrev pub row : Matrix → ℕ → ℕ
row m r = get_or m r 0

-- the entry in row r and column c
abbrev pub entry : Matrix → ℕ → ℕ → ℕ
entry m r c = bit (row m r) c

-- bit r of the product M v: the parity of the number of columns c with M r c = 1 and v c = 1
unfoldable pub component : Matrix → ℕ → ℕ → ℕ
component m v r = sum 8 (λ c. entry m r c * bit v c) % 2

-- the product M v, a vector
unfoldable pub apply : Matrix → ℕ → ℕ
apply m v = sum 8 (λ r. component m v r * 2 ^ r)

-- the sum of two matrices: the exclusive or of their rows
abbrev pub add : Matrix → Matrix → Matrix
add a b = tabulate 8 (λ r. bit_xor (row a r) (row b r))

-- v maps to zero only if it is zero
abbrev pub only_zero_at : Matrix → ℕ → Bool
only_zero_at m v = eqb v 0 || not (eqb (apply m v) 0)

-- invertible: only the zero vector maps to zero
unfoldable pub invertible : Matrix → Bool
invertible m = all 256 (λ v. only_zero_at m v)

abbrev pub singular : Matrix → Bool
singular m = not (invertible m)

-- invertible, as a proposition
abbrev pub Invertible : Matrix → Type 0
Invertible m = (v : ℕ) → v < 256 → apply m v ≡ 0 → v ≡ 0

-- the entries of a matrix that are one
unfoldable pub weight : Matrix → ℕ
weight m = sum 8 (λ r. sum 8 (λ c. entry m r c))
