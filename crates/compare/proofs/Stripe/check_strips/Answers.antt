-- `compare::Stripe::check_strips` meets its contract.
use native.Mathlib.Omega.{arith}
use Rattle.compare.proofs.CheckedBelow.{checked_none, checked_count, checked_strip, checked_all}
use Rattle.compare.proofs.Stripe.check_strips.Goals as goal

pub loop-done-init : goal.loop-done-init
loop-done-init c = checked_count (omega arith) (checked_none c.requires.1)

pub loop-done-preserved : goal.loop-done-preserved
loop-done-preserved c =
    checked_strip c.requires.1 c.requires.0 c.loop-done-test.true c.next_start-i.ensures c.loop-done.invariant c.place-at.ensures c.check_strip.ensures c.joined-found.ensures

pub returns : goal.returns
returns c = checked_all c.loop-done.invariant (omega arith)

pub returns-2 : goal.returns-2
returns-2 c =
    checked_all
    (checked_strip c.requires.1 c.requires.0 c.loop-done-test.true c.next_start-i.ensures c.loop-done.invariant c.place-at.ensures c.check_strip.ensures c.joined-found.ensures)
    (omega arith)
