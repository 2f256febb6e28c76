-- `Begin` meets its contract: the highest disk, those below it, and both sums put in their places.
use Rattle.sums.proofs.Passes.{chunk_begun, chunk_passed}
use Rattle.sums.proofs.BeginPass.chunk.Goals as goal

pub returns : goal.returns
returns c =
    let a = c.args in
    let sums = c.add_disks in
    chunk_passed sums.new.sums c.requires.2 (chunk_begun a.g a.stripe.now a.i a.self.from c.highest-sums.ensures sums.ensures) c.set_sums.ensures
