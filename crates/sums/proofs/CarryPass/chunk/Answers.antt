-- `Carry` meets its contract: the sums that P and Q hold, the disks of the pass, and both sums put back.
use Rattle.sums.proofs.Passes.{chunk_carried, chunk_passed}
use Rattle.sums.proofs.CarryPass.chunk.Goals as goal

pub returns : goal.returns
returns c =
    let sums = c.add_disks in
    chunk_passed sums.new.sums c.requires.2
    (chunk_carried c.requires.0 c.requires.3 c.chunk.ensures c.chunk-2.ensures sums.ensures)
    c.set_sums.ensures
