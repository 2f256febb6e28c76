-- The judge of bit-matrix codes: what it is to answer for every code and count.
-- Assumes nothing.
use Rattle.std.specs.Prelude.{◌≡◌, Bool, ◌&&◌, ◌||◌, [], ◌∷◌, ℕ, zero, suc, ◌*◌, ◌-◌, eqb, ltb, Result, Ok, Err}
use Rattle.base.specs.Choice.{choose}
use Rattle.base.specs.Refusal.{Refusal, first_of, Answer, answered}
use Rattle.matrix.specs.Fold.{sum}
use Rattle.matrix.specs.Matrix.{weight}
use Rattle.findings.specs.Findings.{Code, X, Finding, finding, is_fit, places_of}
use Rattle.bitmatrix.specs.declared.Judgement.{Judgement}
use Rattle.bitmatrix.specs.declared.Refusal.{Refusal as Reason}
use Rattle.bitmatrix.specs.declared.Refusal.TheVariants.{Count}

-- ---- the ones

-- the entries that are one, of the matrices that count
unfoldable pub ones : Code → ℕ → ℕ
ones code count = sum count (λ i. weight (X code i))

-- ---- the answer

-- fit with 9k - 1 ones for k matrices, the density of the sets of 004
abbrev pub minimal : Finding → ℕ → ℕ → Bool
minimal g n count = is_fit g && eqb n (9 * count - 1)

-- no matrix or more than eight
abbrev pub refusal8 : ℕ → Refusal
refusal8 count = record { number = 8; applies = eqb count 0 || ltb 8 count }

-- the order of Judge
abbrev pub refusal : ℕ → ℕ
refusal count = first_of (refusal8 count ∷ [])

-- the number of each refusal
abbrev pub number_of : Reason → ℕ
number_of Count = 8

-- an answer in numbers: a refusal is its number alone; with result 0 come the ones, 1 or 0 for minimal or not, and the places of the finding
abbrev pub answer_of : Result Judgement Reason → Answer
answer_of (Err r) = record { number = number_of r; values = [] }
answer_of (Ok j) = record { number = 0; values = j.ones ∷ choose j.minimal 1 0 ∷ places_of j.finding }

-- the answer of a call: a result number above 0 refuses and brings no other news
abbrev pub refused_or : ℕ → Judgement → Result Judgement Reason
refused_or zero j = Ok j
refused_or (suc n) j = Err Count

abbrev pub judgement : Finding → ℕ → Bool → Judgement
judgement g n d = record { finding = g; ones = n; minimal = d }

abbrev pub judged : Code → ℕ → Result Judgement Reason
judged code count =
    refused_or (refusal count)
    (judgement (finding code count) (ones code count) (minimal (finding code count) (ones code count) count))

-- what the judge promises of its answer r: its number is that of the first refusal that applies and its values are what the code has; and the
-- whole answer is the one defined
pub record Judges (code : Code) (count : ℕ) (r : Result Judgement Reason) : Type 0 where
  pub answer : answer_of r
      ≡ answered (refusal count) (ones code count ∷ choose (minimal (finding code count) (ones code count) count) 1 0 ∷ places_of (finding code count))
  pub result : r ≡ judged code count
