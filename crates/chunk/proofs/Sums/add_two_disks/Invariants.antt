-- `chunk::Sums::add_two_disks` meets its contract. The loop's invariant: in the places below j both disks are summed.
use lib.ListN.{get_or}
use Rattle.gf256.specs.Field.{sum, double}
use Rattle.base.proofs.Fill.{Filled}
use Rattle.chunk.specs.Chunk.{width}
use Rattle.chunk.proofs.Sums.add_two_disks.Given as goal

abbrev pub invariant-loop-j : goal.invariant-loop-j
invariant-loop-j l = Filled (λ j v. sum (sum v (get_or l.d j 0)) (get_or l.e j 0)) width l.initial.self.p l.self.p l.j
    × Filled (λ j v. sum (double (sum (double v) (get_or l.d j 0))) (get_or l.e j 0)) width l.initial.self.q l.self.q l.j
