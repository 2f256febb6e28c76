-- `verdict::fill_unclean` meets its contract.
use mathlib.Core.Path.{◌≡◌}
use native.Mathlib.Omega.{arith}
use borrow.Author.Tests.{eq-eqb, ne_eqb}
use Rattle.base.proofs.Fill.{fill_more, fill_all}
use Rattle.chunk.proofs.Laws.{or_zero}
use Rattle.verdict.specs.Verdicts.{unclean}
use Rattle.verdict.proofs.fill_unclean.Goals as goal
use Rattle.verdict.proofs.fill_unclean.Goals.{then-sums-j-eq0, else-sums-j-eq0}

pub loop-j-preserved : goal.loop-j-preserved
loop-j-preserved c =
    let a = c.args in
    let l = c.loop-j in
    let value : c.if-sums-j-eq0.room ≡ unclean a.v a.sums.now.p a.sums.now.q l.j =
    rw (← or_zero) (elim c.if-sums-j-eq0.branch [ then-sums-j-eq0 w ↦ rw (eq-eqb _ 0 w.if-sums-j-eq0.true) w.room-is | else-sums-j-eq0 w ↦ rw (ne_eqb _ 0 w.if-sums-j-eq0.false) w.room-is ]) in
    fill_more l.invariant (omega arith) value

pub returns : goal.returns
returns c = fill_all c.loop-j.invariant (omega arith)
