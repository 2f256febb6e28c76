-- A matrix has at most 64 ones, so no sum of them overflows.
-- Assumes nothing.
use mathlib.Core.Path.{◌≡◌}
use Prim.Native.Nat.{◌*◌, ◌≤◌}
use lib.ListN.{length}
use mathlib.Core.List.{[]}
use Rattle.std.specs.List.{sum_by}
use Rattle.matrix.specs.Matrix.{weight}
use Rattle.findings.specs.Findings.{Code, X}
use Rattle.bitmatrix.specs.Judge.{ones}
use Rattle.matrix.proofs.Fold.{sum_le}
use Rattle.matrix.proofs.Elements.{sum_elements}
use Rattle.matrix.proofs.Weight.{weight_le}

pub ones_elements : (code : Code) → sum_by weight code ≡ ones code (length code)
unfolding ones
ones_elements code = sum_elements code [] weight

pub ones_le : (code : Code) → ones code (length code) ≤ length code * 64
unfolding ones
ones_le code = sum_le 64 (length code) (λ i. weight (X code i)) (λ i. weight_le (X code i))
