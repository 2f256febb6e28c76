-- `sums::survivors` meets its contract: three runs of disks, and the parities that are not lost.
use mathlib.Core.Path.{sym, ◌∙◌}
use Rattle.chunk.specs.Chunk.{width}
use Rattle.stretch.proofs.Laws.{has}
use Rattle.sums.proofs.Horner.{tails_none, tails_stored}
use Rattle.sums.proofs.Runs.{within_all, runs_added, lower_min, higher_max}
use Rattle.sums.proofs.Zeros.{no_sums}
use Rattle.sums.proofs.survivors.Goals as goal

pub returns-then-not-is_in : goal.returns-then-not-is_in
returns-then-not-is_in c = let a = c.args in no_sums a.g a.stripe.now a.i width (sym c.is_in.ensures ∙ c.if-not-is_in.true) a.g.n a.pair.x a.pair.y

pub returns : goal.returns
returns c =
    let a = c.args in
    tails_stored a.g.n _
    (runs_added a.pair.x a.pair.y (has a.g a.stripe.now a.i width (sym c.is_in.ensures ∙ c.if-not-is_in.false)) (lower_min c.min.ensures) (higher_max c.max.ensures) (within_all c.add_above-k.ensures) (within_all c.add_above-k-2.ensures) c.add_disks.ensures
    (tails_none a.g.n _))
    c.add_stored.ensures
