-- `roster::read` meets its contract. The loop's invariant: the text is read up to `start`. The measure is what is left of it.
use Prim.Native.Nat.{◌+◌, ◌-◌, ◌≤◌}
use lib.ListN.{length}
use Rattle.roster.proofs.ReadTo.{ReadTo}
use Rattle.roster.proofs.read.Given as goal

abbrev pub invariant-loop-start : goal.invariant-loop-start
invariant-loop-start l = (l.start ≤ length l.text + 1) × ReadTo l.text l.ends l.found l.slots l.start

abbrev pub decreases-loop-start : goal.decreases-loop-start
decreases-loop-start l = length l.text + 1 - l.start
