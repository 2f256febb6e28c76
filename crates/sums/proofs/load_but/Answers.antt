-- `sums::load_but` meets its contract: a lost role counts as 00.
use mathlib.Core.Path.{sym, ◌∙◌}
use Rattle.base.proofs.Table.{tabulate_same}
use Rattle.chunk.specs.Chunk.{width}
use Rattle.losses.proofs.Without.{lost_zero}
use Rattle.stretch.specs.Stretch.{column_of}
use Rattle.stretch.proofs.Laws.{zeros}
use Rattle.sums.proofs.load_but.Goals as goal

pub returns-then-has : goal.returns-then-has
returns-then-has c =
    let a = c.args in
    zeros ∙ tabulate_same width (λ j p. sym (lost_zero a.pair.x a.pair.y (column_of a.at.g a.stripe.now a.at.i a.at.w j) a.role (sym c.has.ensures ∙ c.if-has.true)))
