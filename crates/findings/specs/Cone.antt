-- What the theorems about the judge say, as propositions: 000's definition 3.1.1, and permutation matrices.
-- Assumes nothing.
use Rattle.std.specs.Prelude.{◌≡◌, ◌⊎◌, List, [], ◌∷◌, ℕ, ◌<◌}
use Rattle.matrix.specs.Fold.{sum}
use Rattle.matrix.specs.Matrix.{Matrix, entry, add, Invertible}
use Rattle.findings.specs.Findings.{Code, X, Finding, places_of}

-- definition 3.1.1, over the places below count: every matrix is invertible, and so is the sum of every two at different places
pub record Cone (code : Code) (count : ℕ) : Type 0 where
  pub each : (i : ℕ) → i < count → Invertible (X code i)
  pub sums : (i j : ℕ) → i < count → j < count → (i ≡ j → ⊥) → Invertible (add (X code i) (X code j))

-- one one in every row and in every column
pub record Permutation (m : Matrix) : Type 0 where
  pub rows : (r : ℕ) → r < 8 → sum 8 (λ c. entry m r c) ≡ 1
  pub columns : (c : ℕ) → c < 8 → sum 8 (λ r. entry m r c) ≡ 1

-- i is the first place below count whose matrix is singular
pub record FirstSingular (code : Code) (count i : ℕ) : Type 0 where
  pub below : i < count
  pub singular : Invertible (X code i) → ⊥
  pub before : (k : ℕ) → k < i → Invertible (X code k)

-- no matrix is singular, and (i, j) is the first pair in dictionary order, i < j < count, whose sum is
pub record FirstPair (code : Code) (count i j : ℕ) : Type 0 where
  pub matrices : (k : ℕ) → k < count → Invertible (X code k)
  pub ordered : i < j
  pub below : j < count
  pub singular : Invertible (add (X code i) (X code j)) → ⊥
  pub before : (k l : ℕ) → k < l → l < count → (k < i) ⊎ ((k ≡ i) × (l < j)) → Invertible (add (X code k) (X code l))

-- what the places that a finding names say: none that the code is fit, one a singular matrix, two a pair
abbrev pub Say : Code → ℕ → List ℕ → Type 0
Say code count [] = Cone code count
Say code count (i ∷ []) = FirstSingular code count i
Say code count (i ∷ j ∷ []) = FirstPair code count i j
Say code count (i ∷ j ∷ k ∷ rest) = ⊥

abbrev pub Reports : Code → ℕ → Finding → Type 0
Reports code count g = Say code count (places_of g)
