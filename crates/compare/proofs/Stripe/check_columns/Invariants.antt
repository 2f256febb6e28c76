-- `compare::Stripe::check_columns` meets its contract. The loop's invariant: found is the summary of the verdicts of the first m chunks, and they are given, if they are
-- kept.
use Prim.Native.Nat.{◌*◌}
use Rattle.chunk.specs.Chunk.{width}
use Rattle.compare.proofs.CheckedBelow.{CheckedBelow}
use Rattle.compare.proofs.Stripe.check_columns.Given as goal

abbrev pub invariant-loop-m : goal.invariant-loop-m
invariant-loop-m l = CheckedBelow l.self.g l.self.bytes.now l.keep l.initial.room l.room (width * l.m) l.found
