-- `StripByBoth` meets its contract. The loop's invariant: the first m chunks are restored. The sums are of the columns as they were;
-- those that are still to come have not changed.
use Prim.Native.Nat.{◌*◌}
use Rattle.chunk.specs.Chunk.{width}
use Rattle.losses.specs.Losses.{solved}
use Rattle.shape.specs.Columns.{ColumnsMapped}
use Rattle.restore.proofs.StripByBothStep.restore.Given as goal

abbrev pub invariant-loop-m : goal.invariant-loop-m
invariant-loop-m l = ColumnsMapped l.g l.i (width * l.m) (λ j c. solved l.g.n l.self.pair.x l.self.pair.y l.self.rule c) l.initial.stripe l.stripe
