-- `chunk::add` meets its contract. The loop's invariant: the places below j are summed.
use lib.ListN.{get_or}
use Rattle.gf256.specs.Field.{sum}
use Rattle.base.proofs.Fill.{Filled}
use Rattle.chunk.specs.Chunk.{width}
use Rattle.chunk.proofs.add.Given as goal

abbrev pub invariant-loop-j : goal.invariant-loop-j
invariant-loop-j l = Filled (λ j v. sum v (get_or l.d j 0)) width l.initial.a l.a l.j
