-- `roster::judge_all` meets its contract. The loop's invariant: the serials are judged up to this slot.
use Rattle.roster.proofs.JudgedTo.{JudgedTo}
use Rattle.roster.proofs.judge_all.Given as goal

abbrev pub invariant-loop-slot : goal.invariant-loop-slot
invariant-loop-slot l = JudgedTo l.lent l.slot l.length
