-- A matrix has at most eight ones in each row, so no sum of them overflows.
-- Assumes nothing.
use mathlib.Core.Path.{◌≡◌, ap, ◌∙◌}
use Prim.Native.Nat.{ℕ, ◌+◌, ◌*◌, ◌≤◌, ◌<◌}
use native.Mathlib.Omega.{arith}
use lib.Count
use lib.ListN.{length}
use Rattle.std.specs.List.{sum_by}
use Rattle.matrix.specs.Fold.{sum}
use Rattle.matrix.specs.Matrix.{Matrix, row, entry, weight}
use Rattle.matrix.proofs.Fold.{fold_ext, sum_le}
use Rattle.matrix.proofs.Elements.{sum_elements}
use Rattle.matrix.proofs.Bits.{ones_bits}

pub rows_le : (m : Matrix) (n : ℕ) → sum n (λ r. sum 8 (λ c. entry m r c)) ≤ n * 8
rows_le m n = sum_le 8 n _ (λ r. sum_le 1 8 (λ c. entry m r c) (λ c. omega arith))

-- the ones of the rows
pub weight_elements : (m : Matrix) → length m ≡ 8 → ((r : ℕ) → row m r < 256) → sum_by Count.ones m ≡ weight m
unfolding weight
weight_elements m eight bytes =
    sum_elements m 0 Count.ones
    ∙ ap (λ (n : ℕ). sum n (λ r. Count.ones (row m r))) eight
    ∙ fold_ext ◌+◌ 0 8 _ _ (λ r _. ones_bits 8 (row m r) (bytes r))

pub weight_le : (m : Matrix) → weight m ≤ 64
unfolding weight
weight_le m = rows_le m 8
