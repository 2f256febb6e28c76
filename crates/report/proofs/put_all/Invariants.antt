-- `report::put_all` meets its contract. The loop's invariant: the first i fields are stored.
use Rattle.std.proofs.Common.{◌≡◌, ◌*◌, ◌++◌, take, drop}
use Rattle.header.specs.Fields.{fields}
use Rattle.report.proofs.put_all.Given as goal

abbrev pub invariant-loop-i : goal.invariant-loop-i
invariant-loop-i l = l.out ≡ fields (take l.i l.values) ++ drop (2 * l.i) l.initial.out
