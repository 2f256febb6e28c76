-- `roster_answer::tell_refused` meets its contract: each of its lines is that of the definition.
use Rattle.lines.specs.declared.Fault.TheVariants.{BadCharacter, BadLength, NoLineFeed, Repeated, PastLast}
use Rattle.roster_answer.specs.Words.{decimal}
use Rattle.roster_answer.proofs.Told.{told_fault}
use Rattle.roster_answer.proofs.tell_refused.Goals as goal

pub returns-in-BadCharacter : goal.returns-in-BadCharacter
unfolding decimal
returns-in-BadCharacter c = told_fault BadCharacter c.args.line c.in-BadCharacter.is c.tell.ensures

pub returns-in-BadLength : goal.returns-in-BadLength
unfolding decimal
returns-in-BadLength c = told_fault BadLength c.args.line c.in-BadLength.is c.tell-in-BadLength.ensures

pub returns-in-NoLineFeed : goal.returns-in-NoLineFeed
unfolding decimal
returns-in-NoLineFeed c = told_fault NoLineFeed c.args.line c.in-NoLineFeed.is c.tell-in-NoLineFeed.ensures

pub returns-in-Repeated : goal.returns-in-Repeated
unfolding decimal
returns-in-Repeated c = told_fault Repeated c.args.line c.in-Repeated.is c.tell-in-Repeated.ensures

pub returns-in-PastLast : goal.returns-in-PastLast
unfolding decimal
returns-in-PastLast c = told_fault PastLast c.args.line c.in-PastLast.is c.tell-in-PastLast.ensures
