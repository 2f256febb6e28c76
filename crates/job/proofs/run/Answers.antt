-- `job::run` meets its contract: a call of the stripe for each command.
use Rattle.std.proofs.Common.{◌≡◌, ℕ, ◌+◌, ◌*◌, ◌-◌, List, length, take, drop, sym, ap, ap₂, ◌∙◌, arith}
use Rattle.shape.specs.declared.Geometry.{Geometry}
use Rattle.shape.specs.Refusals.{encode_refusal}
use Rattle.compare.specs.Compare.{verdicts}
use Rattle.stripe.specs.Calls.{after_encode, rebuilt_by, after_repair}
use Rattle.devices.specs.Codes.{naming_of}
use Rattle.header.specs.Header.{command_of, geometry_of, stripe_of}
use Rattle.header.specs.Numbers.{command_code}
use Rattle.header.proofs.Accepted.{accepted, columns_most}
use Rattle.report.specs.Report.{report}
use Rattle.job.proofs.Bodies.{length_stripe, length_check, check_done, encode_done, rebuild_done, repair_done}
use Rattle.base.proofs.Tails.{tail}
use Rattle.job.proofs.run.Goals as goal

pub slice_bounds-stripe-count : goal.slice_bounds-stripe-count
slice_bounds-stripe-count c = (accepted c.args.job.now c.requires.0).long

pub slice_bounds-stripe-start : goal.slice_bounds-stripe-start
slice_bounds-stripe-start c = (accepted c.args.job.now c.requires.0).long

pub copy_from_slice-requires : goal.copy_from_slice-requires
copy_from_slice-requires c =
    let job = c.args.job.now in
    let one : command_of job ≡ 1 = sym c.requires.1 ∙ ap command_code c.in-Encode.is in
    c.requires.2 ∙ length_stripe job (accepted job c.requires.0) (λ e. omega arith) ∙ sym (ap length (tail 14 job))

pub copy_from_slice-requires-in-Rebuild : goal.copy_from_slice-requires-in-Rebuild
copy_from_slice-requires-in-Rebuild c =
    let job = c.args.job.now in
    let two : command_of job ≡ 2 = sym c.requires.1 ∙ ap command_code c.in-Rebuild.is in
    c.requires.2 ∙ length_stripe job (accepted job c.requires.0) (λ e. omega arith) ∙ sym (ap length (tail 14 job))

pub copy_from_slice-requires-in-Repair : goal.copy_from_slice-requires-in-Repair
copy_from_slice-requires-in-Repair c =
    let job = c.args.job.now in
    let four : command_of job ≡ 4 = sym c.requires.1 ∙ ap command_code c.in-Repair.is in
    c.requires.2 ∙ length_stripe job (accepted job c.requires.0) (λ e. omega arith) ∙ sym (ap length (tail 14 job))

pub check-requires : goal.check-requires
check-requires c =
    let is = c.geometry-g.ensures in
    let job = c.args.job.now in
    let three : command_of job ≡ 3 = sym c.requires.1 ∙ ap command_code c.in-Check.is in (
      ap₂ (λ (g : Geometry) (l : List ℕ). encode_refusal g (length l)) is (tail 14 job) ∙ (accepted job c.requires.0).shape,
      rw is (columns_most (accepted job c.requires.0)),
      c.requires.2 ∙ length_check job three ∙ ap (λ (g : Geometry). 2 + 2 * g.b) (sym is),
    )

-- the calls work on the stripe that was copied
pub returns-in-Encode : goal.returns-in-Encode
returns-in-Encode c =
    let job = c.args.job.now in
    c.encode.ensures.stripe
    ∙ ap₂ after_encode c.geometry-g.ensures (c.copy_from_slice.ensures.after ∙ tail 14 job)
    ∙ encode_done job (accepted job c.requires.0) (sym c.requires.1 ∙ ap command_code c.in-Encode.is)

pub returns-in-Rebuild : goal.returns-in-Rebuild
returns-in-Rebuild c =
    let job = c.args.job.now in
    let first = c.field in
    let second = c.field-in-Rebuild in
    c.rebuild_named.ensures.stripe
    ∙ ap₂ (λ (g : Geometry) (l : List ℕ). rebuilt_by g (naming_of first.result second.result) l) c.geometry-g.ensures (c.copy_from_slice-in-Rebuild.ensures.after ∙ tail 14 job)
    ∙ ap₂ (λ (x y : ℕ). rebuilt_by (geometry_of job) (naming_of x y) (stripe_of job)) first.ensures.value second.ensures.value
    ∙ rebuild_done job (accepted job c.requires.0) (sym c.requires.1 ∙ ap command_code c.in-Rebuild.is)

pub returns-in-Check : goal.returns-in-Check
returns-in-Check c =
    let job = c.args.job.now in
    c.check.ensures
    ∙ ap (λ (g : Geometry). report (verdicts g (take (length job - 14) (drop 14 job)))) c.geometry-g.ensures
    ∙ sym (check_done job (sym c.requires.1 ∙ ap command_code c.in-Check.is))

pub returns-in-Repair : goal.returns-in-Repair
returns-in-Repair c =
    let job = c.args.job.now in
    c.repair.ensures.stripe
    ∙ ap₂ after_repair c.geometry-g.ensures (c.copy_from_slice-in-Repair.ensures.after ∙ tail 14 job)
    ∙ repair_done job (accepted job c.requires.0) (sym c.requires.1 ∙ ap command_code c.in-Repair.is)
