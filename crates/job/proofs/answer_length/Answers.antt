-- `job::answer_length` meets its contract: by the command of a job that is not refused.
use Rattle.std.proofs.Common.{length, sym, ap, ◌∙◌, arith}
use lib.ListN.{length-drop}
use Rattle.header.specs.Numbers.{command_code}
use Rattle.header.proofs.Accepted.{accepted}
use Rattle.job.proofs.Answers.{answer_refused, length_accepted}
use Rattle.job.proofs.Bodies.{length_check, length_stripe}
use Rattle.job.proofs.Judged.{judged_err, judged_ok, check_alone}
use Rattle.job.proofs.answer_length.Goals as goal

pub overflow_sub-result : goal.overflow_sub-result
overflow_sub-result c = omega (arith, (accepted c.args.job.now (judged_ok c.requires c.in-Ok.is).0).long)

pub returns-in-Err : goal.returns-in-Err
returns-in-Err c = sym (ap length (answer_refused c.args.job.now (judged_err c.requires c.in-Err.is)))

pub returns-in-Check : goal.returns-in-Check
returns-in-Check c =
    let job = c.args.job.now in
    let told = judged_ok c.requires c.in-Ok.is in
    let value = c.field.ensures.value in
    let rest = length_check job (sym told.1 ∙ ap command_code c.in-Check.is) in
    omega (arith, length_accepted job told.0)

pub returns-in_default : goal.returns-in_default
returns-in_default c =
    let job = c.args.job.now in
    let told = judged_ok c.requires c.in-Ok.is in
    let rest = length_stripe job (accepted job told.0) (λ e. c.in_default.not-Check (check_alone c.in-Ok.command (told.1 ∙ e))) in
    omega (arith, length_accepted job told.0, (accepted job told.0).long, length-drop 14 job)
