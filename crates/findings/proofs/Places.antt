-- The places past the count change nothing in the finding: it is a fold over the places below the count.
-- Assumes nothing.
use mathlib.Core.Path.{◌≡◌, ap, ap₂}
use mathlib.Core.Bool.{◌&&◌}
use Prim.Native.Nat.{ℕ, ◌<◌}
use lib.Dec.{ltb}
use Rattle.matrix.specs.Matrix.{Matrix, add, singular}
use Rattle.findings.specs.Findings.{Code, X, when, finding}
use Rattle.std.specs.Prelude.{None}
use Rattle.std.specs.Option.{option_or}
use Rattle.findings.specs.declared.Flaw.TheVariants.{Singular, Pair}
use Rattle.matrix.proofs.Fold.{fold_ext}

pub finding_places : (code code' : Code) (count : ℕ) → ((i : ℕ) → i < count → X code i ≡ X code' i) → finding code count ≡ finding code' count
unfolding finding
finding_places code code' count agree =
    ap₂ option_or
    (fold_ext option_or None count _ _ (λ i l. ap (λ (m : Matrix). when (singular m) (Singular i)) (agree i l)))
    (fold_ext option_or None count _ _
    (λ i li.
    fold_ext option_or None count _ _
    (λ j lj. ap₂ (λ (m n : Matrix). when (ltb i j && singular (add m n)) (Pair i j)) (agree i li) (agree j lj))))
