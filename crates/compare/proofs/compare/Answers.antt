-- `compare::compare` meets its contract: its refusal, then the verdicts, which are kept.
use borrow.Author.Tests.{ne_eqb, eq-eqb}
use mathlib.Core.Path.{refl, sym, ◌∙◌}
use Rattle.base.proofs.Refused.{leaves_alone, leaves_done}
use Rattle.shape.proofs.Numbers.{number_done, number_refused}
use Rattle.compare.specs.Compare.{verdicts, after_check}
use Rattle.compare.proofs.compare.Goals as goal

pub returns-then-is_err : goal.returns-then-is_err
unfolding after_check
returns-then-is_err c =
    let a = c.args in
    let same = c.check_refusal.ensures in
    let refused = number_refused _ (sym c.is_err.ensures.value ∙ c.if-is_err.true) in
    record { result = rw (ne_eqb _ _ (λ e. refused (same ∙ e))); room = leaves_alone (verdicts a.g a.stripe.now) a.room.now same refused }

pub returns : goal.returns
unfolding after_check
returns c =
    let a = c.args in
    let same = c.check_refusal.ensures in
    let none = number_done _ (sym c.is_err.ensures.value ∙ c.if-is_err.false) in
    let told = c.check_into.ensures in
    record { result = rw (eq-eqb _ _ (sym same ∙ none)) told.result; room = leaves_done (verdicts a.g a.stripe.now) a.room.now same none (told.room refl) }
