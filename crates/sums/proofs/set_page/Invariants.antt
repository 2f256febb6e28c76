-- `sums::set_page` meets its contract. The loop's invariant: after the first pass m more are made.
use Prim.Native.Nat.{◌-◌, ◌*◌}
use Rattle.sums.specs.Passes.{page, Passed}
use Rattle.sums.proofs.set_page.Given as goal

abbrev pub invariant-loop-m : goal.invariant-loop-m
invariant-loop-m l = Passed l.g l.i page (l.below - 5 * l.m) l.below l.initial.stripe l.stripe
