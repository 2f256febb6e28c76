-- What is wrong with a bit-matrix code: a list of matrices X 0, X 1, .., of which the first `count` are looked at.
-- A code is fit where nothing is: the cone of 000's definition 3.1.1, taken over the places of the list. Assumes nothing.
use Rattle.std.specs.Prelude.{Bool, true, false, ◌&&◌, List, [], ◌∷◌, ℕ, ltb, get_or, Option, Some, None, is_none}
use Rattle.std.specs.Option.{option_or}
use Rattle.matrix.specs.Fold.{fold}
use Rattle.matrix.specs.Matrix.{Matrix, add, singular}
use Rattle.findings.specs.declared.Flaw.{Flaw}
use Rattle.findings.specs.declared.Flaw.TheVariants.{Singular, Pair}

abbrev pub Code : Type 0
Code = List Matrix

-- the matrix at place i
abbrev pub X : Code → ℕ → Matrix
X code i = get_or code i []

-- a flaw, or none
abbrev pub Finding : Type 0
Finding = Option Flaw

-- the first of the findings f 0, f 1, .., f (n - 1) that is a flaw, and none where there is none
abbrev pub first : ℕ → (ℕ → Finding) → Finding
first = fold option_or None

-- the flaw where the test holds
abbrev pub when : Bool → Flaw → Finding
when true f = Some f
when false f = None

abbrev pub singular_at : Code → ℕ → Finding
singular_at code i = when (singular (X code i)) (Singular i)

abbrev pub pair_at : Code → ℕ → ℕ → Finding
pair_at code i j = when (ltb i j && singular (add (X code i) (X code j))) (Pair i j)

-- the first pair, in dictionary order: the first i, and for it the first j
abbrev pub first_pair : Code → ℕ → Finding
first_pair code count = first count (λ i. first count (λ j. pair_at code i j))

-- the first singular matrix; if there is none, the first pair whose sum is singular; if there is none, nothing
unfoldable pub finding : Code → ℕ → Finding
finding code count = option_or (first count (λ i. singular_at code i)) (first_pair code count)

abbrev pub is_fit : Finding → Bool
is_fit g = is_none g

-- the places that a finding names: none where the code is fit, a singular matrix, or a pair in its order
abbrev pub places_of : Finding → List ℕ
places_of None = []
places_of (Some (Singular i)) = i ∷ []
places_of (Some (Pair i j)) = i ∷ j ∷ []
