-- `verdict::common_verdict` meets its contract: an answer is given where the unclean columns agree on it.
use mathlib.Core.Path.{sym, ◌∙◌}
use Rattle.verdict.proofs.Common.{told_clean, told_q}
use Rattle.verdict.proofs.common_verdict.Goals as goal

pub returns-then-clean : goal.returns-then-clean
returns-then-clean c = told_clean _ _ _ (sym c.are_zero.ensures ∙ c.if-are_zero.true) (sym c.are_zero-clean.ensures ∙ c.if-clean.true)

pub returns-else-clean : goal.returns-else-clean
returns-else-clean c = told_q _ _ _ (sym c.are_zero.ensures ∙ c.if-are_zero.true) (sym c.are_zero-clean.ensures ∙ c.if-clean.false)
