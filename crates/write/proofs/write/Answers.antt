-- `write::write` meets its contract: its refusal, then the stretch.
use Rattle.std.proofs.Common.{length, refl, sym, arith}
use Rattle.base.proofs.Refused.{leaves_alone, leaves_done}
use Rattle.shape.proofs.Numbers.{refusal_number, refused_with}
use Rattle.shape.proofs.Refused.{well_shaped, write_accepted}
use Rattle.write.specs.Write.{written, after_write}
use Rattle.write.proofs.Written.{stretch_lift}
use Rattle.write.proofs.write.Goals as goal

pub returns-in_err-write_refusal : goal.returns-in_err-write_refusal
unfolding after_write
returns-in_err-write_refusal c =
    let a = c.args in
    let refused = c.in_err-write_refusal.ensures in
    rw (refused_with _ c.from_residual.ensures.1) record { result = refused; stripe = leaves_alone (written a.g a.disk a.offset a.new.now a.stripe.now) a.stripe.now refused (refusal_number c.in_err-write_refusal.field-0.0) }

pub returns : goal.returns
unfolding after_write
returns c =
    let a = c.args in
    let done = c.in_ok-write_refusal.ensures in
    let told = write_accepted a.g (length a.stripe.now) a.disk a.offset (length a.new.now) (sym done) in
    record {
      result = done;
      stripe =
          leaves_done (written a.g a.disk a.offset a.new.now a.stripe.now) a.stripe.now done refl
          (stretch_lift (well_shaped a.g a.stripe.now told.0) (omega (arith, told.1)) c.write_all.ensures);
    }
