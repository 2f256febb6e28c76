-- `sums::sum_without` meets its contract. The loop's invariant: in every column, p is the sum over the roles below k without x.
use mathlib.Core.Path.{◌≡◌}
use Rattle.chunk.specs.Chunk.{each}
use Rattle.column.specs.Column.{put, total}
use Rattle.stretch.specs.Stretch.{column_of}
use Rattle.sums.proofs.sum_without.Given as goal

abbrev pub invariant-loop-k : goal.invariant-loop-k
invariant-loop-k l = l.p ≡ each (λ j. total l.k (put l.x 0 (column_of l.at.g l.stripe l.at.i l.at.w j)))
