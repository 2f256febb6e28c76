-- `stripe::check` meets its contract: its refusal, then what the comparison finds.
use Rattle.shape.proofs.Numbers.{refusal_number, refused_with}
use Rattle.stripe.proofs.Calls.{check_refused}
use Rattle.stripe.proofs.check.Goals as goal

pub returns-in_err-check_refusal : goal.returns-in_err-check_refusal
returns-in_err-check_refusal c =
    let a = c.args in
    rw (refused_with _ c.from_residual.ensures.1) (check_refused a.g a.stripe.now a.verdicts.now _ c.in_err-check_refusal.ensures (refusal_number c.in_err-check_refusal.field-0.0))
