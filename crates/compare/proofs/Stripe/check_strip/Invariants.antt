-- `compare::Stripe::check_strip` meets its contract. The loop's invariant: the verdicts of the first m chunks are given, and found is their summary.
use Prim.Native.Nat.{◌+◌, ◌*◌}
use Rattle.chunk.specs.Chunk.{width}
use Rattle.column.specs.Column.{verdict}
use Rattle.shape.specs.Layout.{column}
use Rattle.sums.specs.Strip.{strip}
use Rattle.verdict.proofs.Summary.{FilledWithSummary}
use Rattle.compare.proofs.Stripe.check_strip.Given as goal

abbrev pub invariant-loop-m : goal.invariant-loop-m
invariant-loop-m l = FilledWithSummary (λ j. verdict l.self.g.n (column l.self.g l.self.bytes.now (l.i + j))) strip l.initial.room l.room (width * l.m) l.found
