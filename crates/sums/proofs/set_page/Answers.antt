-- `sums::set_page` meets its contract.
use mathlib.Core.Path.{◌≡◌}
use Prim.Native.Nat.{◌+◌, ◌-◌, ◌*◌}
use native.Mathlib.Omega.{arith}
use Rattle.sums.proofs.Passes.{passed_on, passed_all}
use Rattle.sums.proofs.set_page.Goals as goal

pub loop-m-preserved : goal.loop-m-preserved
loop-m-preserved c =
    let next : c.saturating_sub-below.result - 5 * (c.loop-m.m + 1) ≡ c.saturating_sub-from.result = omega arith in
    rw next (passed_on c.loop-m.invariant c.pass_over-in-loop-m.ensures)

pub returns : goal.returns
returns c =
    let done : c.saturating_sub-below.result - 5 * c.loop-m.m ≡ 0 = omega arith in
    passed_all c.requires.0.disk (passed_on c.pass_over.ensures (rw done at c.loop-m.invariant))
