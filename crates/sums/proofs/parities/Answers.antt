-- `sums::parities` meets its contract.
use mathlib.Core.Path.{ap₂}
use Rattle.chunk.specs.Chunk.{width}
use Rattle.stretch.specs.Stretch.{column_of}
use Rattle.sums.proofs.Horner.{two, tails_all}
use Rattle.sums.proofs.parities.Goals as goal

pub returns : goal.returns
returns c =
    let a = c.args in
    let sums = tails_all a.g.n (column_of a.g a.stripe.now a.i width) c.data_sums.ensures in
    ap₂ two sums.0 sums.1
