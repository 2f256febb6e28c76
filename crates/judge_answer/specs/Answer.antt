-- The seven bytes of an answer.
use Rattle.std.specs.Prelude.{List, [], ◌∷◌, ◌++◌, ℕ, ◌/◌, ◌%◌, Result, Ok, Err, Some, None}
use Rattle.base.specs.Choice.{choose}
use Rattle.findings.specs.Findings.{Finding}
use Rattle.findings.specs.declared.Flaw.TheVariants.{Singular, Pair}
use Rattle.bitmatrix.specs.Judge.{number_of}
use Rattle.bitmatrix.specs.declared.Judgement.{Judgement}
use Rattle.bitmatrix.specs.declared.Refusal.{Refusal}

-- the kind of a finding (0 fit, 1 a matrix, 2 a pair) and its places
abbrev pub finding_bytes : Finding → List ℕ
finding_bytes None = 0 ∷ 0 ∷ 0 ∷ []
finding_bytes (Some (Singular i)) = 1 ∷ i % 256 ∷ 0 ∷ []
finding_bytes (Some (Pair i j)) = 2 ∷ i % 256 ∷ j % 256 ∷ []

-- the result number, the finding, the ones as a big-endian number of 16 bits, and 1 where they are minimal; a refusal has zeros after its
-- number
abbrev pub answer_bytes : Result Judgement Refusal → List ℕ
answer_bytes (Err r) = number_of r ∷ 0 ∷ 0 ∷ 0 ∷ 0 ∷ 0 ∷ 0 ∷ []
answer_bytes (Ok j) = 0 ∷ (finding_bytes j.finding ++ (j.ones / 256 % 256 ∷ j.ones % 256 ∷ choose j.minimal 1 0 ∷ []))
