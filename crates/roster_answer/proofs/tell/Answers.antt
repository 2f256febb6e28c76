-- `roster_answer::tell` meets its contract: the last words are copied in after the first and the digits.
use native.Mathlib.Omega.{arith}
use lib.ListN.{length-drop}
use Rattle.base.proofs.Tails.{tail}
use Rattle.roster_answer.proofs.Begins.{numbered_most}
use Rattle.roster_answer.proofs.tell.Goals as goal

pub put-requires : goal.put-requires
put-requires c = rw (tail, length-drop) (omega (arith, numbered_most c.args.head.now c.args.number c.put_numbered-end.ensures))
