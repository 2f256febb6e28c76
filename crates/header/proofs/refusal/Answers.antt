-- `header::refusal` meets its contract: the steps of the order, one after the other.
use Rattle.std.proofs.Common.{refl, ap, ap₂, ◌∙◌, arith}
use borrow.Author.Tests.{lt-ltb}
use Rattle.std.proofs.lemmas.Result.{err_from_is_err_and}
use Rattle.base.specs.Refusal.{first_of}
use Rattle.base.proofs.Refused.{refused_first, refused_then}
use Rattle.base.proofs.Tails.{tail}
use Rattle.shape.specs.declared.Geometry.{Geometry}
use Rattle.shape.specs.declared.Limits.{Limits}
use Rattle.shape.specs.Layout.{size}
use Rattle.shape.specs.Refusals.{limits_refusals}
use Rattle.shape.proofs.Numbers.{refusal_number}
use Rattle.header.specs.Header.{geometry_of}
use Rattle.header.specs.Refusals.{job_limit, job_refusal}
use Rattle.header.specs.Steps.{header_refusals}
use Rattle.header.proofs.Order.{limits_of, from20, behind_header, stripe_as, stripe_then}
use Rattle.header.proofs.Numbers.{job_refusal_number, judged_refused}
use Rattle.header.proofs.refusal.Goals as goal

pub returns-in_err-command : goal.returns-in_err-command
unfolding job_refusal
returns-in_err-command c =
    let job = c.args.job.now in
    let p = err_from_is_err_and c.from_residual.result c.from_residual.ensures.1 in
    rw (p.1, p.2) (judged_refused (refused_first (header_refusals job) (behind_header job) c.in_err-command.ensures.number (job_refusal_number c.in_err-command.field-0.0)))

pub returns-in_err-limits_refusal : goal.returns-in_err-limits_refusal
unfolding job_refusal
returns-in_err-limits_refusal c =
    let job = c.args.job.now in
    let limits = c.in_err-limits_refusal.ensures ∙ ap₂ (λ (l : Limits) (g : Geometry). first_of (limits_refusals l g)) c.library_limits.ensures c.geometry-g.ensures in
    let p = err_from_is_err_and c.from_residual-in_err-limits_refusal.result c.from_residual-in_err-limits_refusal.ensures.1 in
    rw (p.1, p.2)
    (judged_refused
    (refused_then (header_refusals job) (behind_header job) c.in_ok-command.ensures.number refl refl
    (refused_first (limits_of job) (from20 job) limits (refusal_number c.in_err-limits_refusal.field-0.0))))

pub returns-then-g-gt-LIMIT : goal.returns-then-g-gt-LIMIT
unfolding job_refusal
returns-then-g-gt-LIMIT c =
    let job = c.args.job.now in
    let limits = c.in_ok-limits_refusal.ensures ∙ ap₂ (λ (l : Limits) (g : Geometry). first_of (limits_refusals l g)) c.library_limits.ensures c.geometry-g.ensures in
    let large = ap size c.geometry-g.ensures in
    judged_refused
    (refused_then (header_refusals job) (behind_header job) c.in_ok-command.ensures.number refl refl
    (refused_then (limits_of job) (from20 job) limits refl refl (simp (lt-ltb job_limit (size (geometry_of job)) (omega arith)))))

pub returns-in_err-stripe_refusal : goal.returns-in_err-stripe_refusal
returns-in_err-stripe_refusal c =
    let job = c.args.job.now in
    let limits = c.in_ok-limits_refusal.ensures ∙ ap₂ (λ (l : Limits) (g : Geometry). first_of (limits_refusals l g)) c.library_limits.ensures c.geometry-g.ensures in
    let small = ap size c.geometry-g.ensures in
    let rest = c.in_err-stripe_refusal.ensures ∙ stripe_as job c.geometry-g.ensures c.in_ok-command.ensures.command c.field.ensures.value c.field-2.ensures.value (tail 14 job) in
    let p = err_from_is_err_and c.from_residual-in_err-stripe_refusal.result c.from_residual-in_err-stripe_refusal.ensures.1 in
    rw (p.1, p.2) (judged_refused (stripe_then job c.in_ok-command.ensures.number limits (omega arith) rest))

pub returns : goal.returns
returns c =
    let job = c.args.job.now in
    let limits = c.in_ok-limits_refusal.ensures ∙ ap₂ (λ (l : Limits) (g : Geometry). first_of (limits_refusals l g)) c.library_limits.ensures c.geometry-g.ensures in
    let small = ap size c.geometry-g.ensures in
    let rest = c.in_ok-stripe_refusal.ensures ∙ stripe_as job c.geometry-g.ensures c.in_ok-command.ensures.command c.field.ensures.value c.field-2.ensures.value (tail 14 job) in
    record { number = stripe_then job c.in_ok-command.ensures.number limits (omega arith) rest; command = c.in_ok-command.ensures.command }
