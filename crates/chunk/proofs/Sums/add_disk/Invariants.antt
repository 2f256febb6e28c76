-- `chunk::Sums::add_disk` meets its contract. The loop's invariant: the places below i are summed.
use lib.ListN.{get_or}
use Rattle.gf256.specs.Field.{sum, double}
use Rattle.base.proofs.Fill.{Filled}
use Rattle.chunk.specs.Chunk.{width}
use Rattle.chunk.proofs.Sums.add_disk.Given as goal

abbrev pub invariant-loop-i : goal.invariant-loop-i
invariant-loop-i l = Filled (λ j v. sum v (get_or l.d j 0)) width l.initial.self.p l.self.p l.i
    × Filled (λ j v. sum (double v) (get_or l.d j 0)) width l.initial.self.q l.self.q l.i
