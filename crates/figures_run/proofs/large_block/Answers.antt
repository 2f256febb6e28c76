-- `figures_run::large_block` meets what `last_column` requires: the bytes that it lends are those of both disks and both parities.
use mathlib.Core.Path.{◌≡◌, sym}
use Prim.Native.Nat.{ℕ, ◌*◌, ◌≤◌}
use native.Mathlib.Omega.{arith}
use lib.ListN.{length, take, replicate, length-replicate}
use lib.Seq.{length-take-le}
use Rattle.figures_run.proofs.large_block.Goals as goal

lent : (b : ℕ) → b ≤ 65537 → length {A = ℕ} (take (4 * b) (replicate 262148 1)) ≡ 4 * b
lent b within = length-take-le {A = ℕ} (4 * b) (replicate 262148 1) (omega (arith, within, length-replicate {A = ℕ} 262148 1))

pub slice_bounds-last_column-end : goal.slice_bounds-last_column-end
slice_bounds-last_column-end c = sym (lent c.args.b (omega arith))

pub last_column-requires : goal.last_column-requires
last_column-requires c = omega (arith, lent c.args.b (omega arith))
