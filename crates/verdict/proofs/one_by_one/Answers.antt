-- `verdict::one_by_one` meets its contract.
use mathlib.Core.Path.{refl}
use native.Mathlib.Omega.{arith}
use Rattle.verdict.proofs.Summary.{summary_filled_none, summary_filled_more, summary_filled_all}
use Rattle.verdict.proofs.one_by_one.Goals as goal

pub loop-j-init : goal.loop-j-init
loop-j-init c = summary_filled_none refl

pub loop-j-preserved : goal.loop-j-preserved
loop-j-preserved c =
    let l = c.loop-j in
    let verdict = rw (c.element_at.ensures, c.element_at-in-loop-j.ensures) at c.verdict_of-verdict.ensures in
    summary_filled_more l.invariant (omega arith) verdict c.joined-found.ensures

pub returns : goal.returns
returns c = summary_filled_all c.loop-j.invariant (omega arith)
