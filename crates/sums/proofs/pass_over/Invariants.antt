-- `sums::pass_over` meets its contract. The loop's invariant: the pass is made over the first m chunks.
use Prim.Native.Nat.{◌*◌}
use Rattle.chunk.specs.Chunk.{width}
use Rattle.sums.specs.Passes.{Passed}
use Rattle.sums.proofs.pass_over.Given as goal

abbrev pub invariant-loop-m : goal.invariant-loop-m
invariant-loop-m g l = let pass = g.P.Pass in Passed l.g l.i (width * l.m) (pass.from l.pass) (pass.to l.pass l.g.n) l.initial.stripe l.stripe
