-- `roster::put_all` meets its contract. The loop's invariant: the text of the serials before this slot begins the output.
use Rattle.roster.proofs.PutTo.{PutTo}
use Rattle.roster.proofs.put_all.Given as goal

abbrev pub invariant-loop-slot : goal.invariant-loop-slot
invariant-loop-slot l = PutTo l.lent l.initial.out l.out l.at l.slot
