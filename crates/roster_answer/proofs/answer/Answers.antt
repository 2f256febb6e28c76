-- `roster_answer::answer` meets its contract: the serials that are searched are those of the text's lines, and a refusal is told with its line.
use mathlib.Core.Path.{sym}
use lib.Seq.{length-take-le}
use Rattle.roster_answer.proofs.Answered.{slots_within, slots_found, fault_told}
use Rattle.roster_answer.proofs.answer.Goals as goal

pub slice_bounds-ends-end : goal.slice_bounds-ends-end
slice_bounds-ends-end c = slots_within c.read.ensures c.in-Ok.slots c.in-Ok.is

pub slice_bounds-serials-end : goal.slice_bounds-serials-end
slice_bounds-serials-end c = sym (length-take-le c.in-Ok.slots c.read.new.ends (slots_within c.read.ensures c.in-Ok.slots c.in-Ok.is))

pub returns-in-Ok : goal.returns-in-Ok
returns-in-Ok c = rw (slots_found c.read.ensures c.in-Ok.slots c.in-Ok.is c.args.asked.now, ← c.find.ensures) c.tell_found.ensures

pub returns-in-Err : goal.returns-in-Err
returns-in-Err c = rw (fault_told c.read.ensures c.in-Err.faulty c.in-Err.is c.args.asked.now) c.tell_refused.ensures
