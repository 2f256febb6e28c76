-- `sums::syndromes` meets its contract: all disks, and the stored parities.
use mathlib.Core.Path.{ap, ◌∙◌}
use Rattle.chunk.specs.Chunk.{width, plus}
use Rattle.stretch.specs.Stretch.{column_of}
use Rattle.sums.proofs.Horner.{tails_stored}
use Rattle.sums.proofs.syndromes.Goals as goal

pub returns : goal.returns
returns c =
    let a = c.args in
    tails_stored a.g.n (column_of a.g a.stripe.now a.i width) c.data_sums-sums.ensures (c.add.ensures ∙ ap (plus _) c.load-d.ensures, c.add-2.ensures ∙ ap (plus _) c.load-d-2.ensures)
