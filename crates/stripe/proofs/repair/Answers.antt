-- `stripe::repair` meets its contract, by the tests that it makes.
use Rattle.std.proofs.Common.{refl, sym, ◌∙◌}
use Rattle.shape.proofs.Numbers.{refusal_number, refused_with}
use Rattle.stripe.proofs.Repairs.{shape_refuses, summary_refuses, named_rebuilds, none_stays}
use Rattle.stripe.proofs.repair.Goals as goal

pub returns-in_err-encode_refusal : goal.returns-in_err-encode_refusal
returns-in_err-encode_refusal c =
    let a = c.args in
    rw (refused_with _ c.from_residual.ensures.1) (shape_refuses a.g a.stripe.now c.in_err-encode_refusal.ensures (refusal_number c.in_err-encode_refusal.field-0.0))

pub returns-in_err-summary_refusal : goal.returns-in_err-summary_refusal
returns-in_err-summary_refusal c =
    let a = c.args in
    rw (refused_with _ c.from_residual-in_err-summary_refusal.ensures.1) (summary_refuses a.g a.stripe.now c.in_ok-encode_refusal.ensures refl c.summary_of-summary.ensures c.in_err-summary_refusal.ensures (refusal_number c.in_err-summary_refusal.field-0.0))

pub returns-in-Some : goal.returns-in-Some
returns-in-Some c =
    let a = c.args in
    named_rebuilds a.g a.stripe.now c.in_ok-encode_refusal.ensures refl c.summary_of-summary.ensures c.in_ok-summary_refusal.ensures refl (sym c.faulty_device.ensures ∙ c.in-Some.is) c.rebuild.ensures

pub returns-in-None : goal.returns-in-None
returns-in-None c =
    let a = c.args in
    none_stays a.g a.stripe.now c.in_ok-encode_refusal.ensures refl c.summary_of-summary.ensures c.in_ok-summary_refusal.ensures refl (sym c.faulty_device.ensures ∙ c.in-None.is)
