-- The places past the count change nothing in the answer: every part of it is a fold over the places below the count.
-- Assumes nothing.
use mathlib.Core.Path.{◌≡◌, ap, ap₂}
use Prim.Native.Nat.{ℕ, ◌+◌, ◌<◌}
use Rattle.matrix.specs.Matrix.{weight}
use Rattle.findings.specs.Findings.{Code, X, Finding}
use Rattle.bitmatrix.specs.Judge.{ones, minimal, refusal, refused_or, judgement, judged}
use Rattle.matrix.proofs.Fold.{fold_ext}
use Rattle.findings.proofs.Places.{finding_places}

module _ (code code' : Code) (count : ℕ) (agree : (i : ℕ) → i < count → X code i ≡ X code' i) where
  pub ones_places : ones code count ≡ ones code' count
  unfolding ones
  ones_places = fold_ext ◌+◌ 0 count _ _ (λ i l. ap weight (agree i l))

  pub judged_places : judged code count ≡ judged code' count
  judged_places =
      ap₂ (λ (g : Finding) (n : ℕ). refused_or (refusal count) (judgement g n (minimal g n count))) (finding_places code code' count agree) ones_places
