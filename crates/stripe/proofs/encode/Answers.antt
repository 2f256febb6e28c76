-- `stripe::encode` meets its contract: its refusal, then P and Q from the data.
use Rattle.std.proofs.Common.{true, refl, sym, ◌∙◌}
use Rattle.base.proofs.Refused.{leaves_alone, leaves_done}
use Rattle.losses.specs.declared.Plan.TheVariants.{FromData}
use Rattle.shape.proofs.Numbers.{refusal_number, refused_with}
use Rattle.shape.proofs.Refused.{well_shaped}
use Rattle.restore.proofs.Laws.{restored_is}
use Rattle.stripe.specs.Stripe.{encoded}
use Rattle.stripe.specs.Calls.{after_encode}
use Rattle.stripe.proofs.encode.Goals as goal

pub returns-in_err-encode_refusal : goal.returns-in_err-encode_refusal
unfolding after_encode
returns-in_err-encode_refusal c =
    let s = c.args.stripe.now in
    let refused = c.in_err-encode_refusal.ensures in
    rw (refused_with _ c.from_residual.ensures.1) record { result = refused; stripe = leaves_alone (encoded c.args.g s) s refused (refusal_number c.in_err-encode_refusal.field-0.0) }

pub returns : goal.returns
unfolding after_encode
returns c =
    let s = c.args.stripe.now in
    let done = c.in_ok-encode_refusal.ensures in
    record {
      result = done;
      stripe = leaves_done (encoded c.args.g s) s done refl (c.restore.ensures ∙ restored_is c.args.g (FromData true) s (well_shaped c.args.g s (sym done)) tt);
    }
