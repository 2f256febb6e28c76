-- `stripe::rebuild` meets its contract: its refusal, or the plan of the loss, which is the table's row.
use Rattle.std.proofs.Common.{length, refl, sym, ap, ◌∙◌}
use Rattle.base.proofs.Refused.{leaves_alone, leaves_done}
use Rattle.losses.specs.declared.Plan.{Plan}
use Rattle.plans.specs.Plans.{plan_of}
use Rattle.plans.proofs.Planned.{planned, plan_known, asked_refused, asked_plan}
use Rattle.shape.proofs.Numbers.{refused_with}
use Rattle.shape.proofs.Places.{lift_same}
use Rattle.shape.proofs.Refused.{well_shaped}
use Rattle.devices.proofs.Refused.{rebuild_accepted}
use Rattle.restore.specs.Restore.{restored}
use Rattle.restore.proofs.Laws.{restored_is}
use Rattle.stripe.specs.Stripe.{rebuilt}
use Rattle.stripe.specs.Calls.{after_rebuild}
use Rattle.stripe.proofs.rebuild.Goals as goal

pub returns-in_err-plan : goal.returns-in_err-plan
unfolding after_rebuild
returns-in_err-plan c =
    let a = c.args in
    let told = asked_refused a.g (length a.stripe.now) a.lost (sym c.in_err-plan.ensures) in
    rw (refused_with _ c.from_residual.ensures.1) record { result = told.0; stripe = leaves_alone (rebuilt a.g a.lost a.stripe.now) a.stripe.now told.0 told.1 }

pub returns : goal.returns
unfolding after_rebuild
returns c =
    let a = c.args in
    let s = a.stripe.now in
    let told = asked_plan a.g (length s) a.lost (sym c.in_ok-plan.ensures) in
    let accepted = rebuild_accepted a.g (length s) a.lost told.0 in
    record {
      result = sym told.0;
      stripe =
          leaves_done (rebuilt a.g a.lost s) s (sym told.0) refl
          (c.restore.ensures
          ∙ ap (λ (p : Plan). restored a.g p s) told.1
          ∙ restored_is a.g (plan_of a.g.n a.lost) s (well_shaped a.g s accepted.0) (plan_known a.g.n a.lost accepted.1)
          ∙ lift_same a.g s (planned a.g.n a.lost accepted.1));
    }
