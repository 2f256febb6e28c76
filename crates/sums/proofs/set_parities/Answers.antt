-- `sums::set_parities` meets its contract.
use mathlib.Core.Path.{sym, ◌∙◌}
use native.Mathlib.Omega.{arith}
use Rattle.shape.proofs.Numbers.{number_done}
use Rattle.shape.proofs.Refused.{well_shaped}
use Rattle.shape.proofs.Columns.{columns_count, columns_more, columns_all}
use Rattle.sums.proofs.Passes.{set_in_passes, whole_pages}
use Rattle.sums.proofs.set_parities.Goals as goal

pub loop-m-preserved : goal.loop-m-preserved
loop-m-preserved c = columns_count (omega arith) (columns_more (omega arith) (omega arith) c.loop-m.invariant c.set_page.ensures)

pub returns : goal.returns
returns c =
    let a = c.args in
    let l = c.loop-m in
    let h = (let a = c.args in well_shaped a.g a.stripe.now (sym c.encode_refusal.ensures ∙ number_done _ (sym c.is_err.ensures.value ∙ c.if-is_err.false))) in
    columns_all h (columns_count (omega (arith, (whole_pages c.args.g (sym c.in_passes.ensures ∙ c.if-not-in_passes.false)))) l.invariant) ∙ sym (set_in_passes a.g a.stripe.now h (sym c.in_passes.ensures ∙ c.if-not-in_passes.false))
