-- The refusals of a repair (2026-02). Refusal 9 alone depends on the bytes of a stripe: it takes the stripe, and every other refusal takes
-- numbers, lengths and names.
use Rattle.std.specs.Prelude.{ℕ, Bool, List, [], ◌∷◌, eqb, length}
use Rattle.base.specs.Choice.{either}
use Rattle.base.specs.Refusal.{Refusal, first_of}
use Rattle.shape.specs.declared.Geometry.{Geometry}
use Rattle.shape.specs.Refusals.{library, refusal1, refusal2, refusal3}
use Rattle.verdict.specs.Summary.{summary}
use Rattle.compare.specs.Compare.{verdicts}

-- a summary that names no one device: 3 and 4
abbrev pub unclear : ℕ → Bool
unclear v = either (eqb v 3) (eqb v 4)

-- the summary names no one device
abbrev pub refusal9 : Geometry → List ℕ → Refusal
refusal9 g s = record { number = 9; applies = unclear (summary (verdicts g s)) }

abbrev pub repair_refusal : Geometry → List ℕ → ℕ
repair_refusal g s = first_of (refusal1 library g ∷ refusal2 library g ∷ refusal3 g (length s) ∷ refusal9 g s ∷ [])
