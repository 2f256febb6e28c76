-- `sums::strip_survivors` meets its contract. The loop's invariant: the first m groups of disks are added, lost ones as 00.
use mathlib.Core.Path.{◌≡◌}
use Prim.Native.Nat.{◌-◌, ◌*◌}
use Rattle.sums.specs.Strip.{over_strip, staged}
use Rattle.sums.proofs.strip_survivors.Given as goal

abbrev pub invariant-loop-m : goal.invariant-loop-m
invariant-loop-m l = l.strip ≡ over_strip l.g l.stripe l.i l.pair.x l.pair.y (staged l.g.n (l.g.n - 8 * l.m))
