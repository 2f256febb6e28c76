-- `sums::add_to_strip` meets its contract.
use native.Mathlib.Omega.{arith}
use Rattle.sums.proofs.Strips.{changed_more, staged_tails}
use Rattle.sums.proofs.add_to_strip.Goals as goal

pub loop-m-preserved : goal.loop-m-preserved
loop-m-preserved c = let l = c.loop-m in
    let tails = staged_tails _ _ (omega (arith, c.requires.1)) (l.invariant.old l.m (omega arith) c.loop-m-test.true) in
    changed_more l.invariant c.loop-m-test.true (c.add_group.ensures tails)
