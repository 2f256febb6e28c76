-- `verdict::verdicts_of` meets its contract: where P* and Q* are 00 at every place of a whole chunk, every verdict is 0.
use mathlib.Core.Path.{sym, ◌∙◌}
use native.Mathlib.Omega.{arith}
use lib.ListN.{length}
use Rattle.verdict.proofs.Zeros.{zeros_told}
use Rattle.verdict.proofs.verdicts_of.Goals as goal

pub returns-then-are_zero : goal.returns-then-are_zero
returns-then-are_zero c =
    let a = c.args in
    zeros_told a.n a.sums.now.p a.sums.now.q (length a.room.now) (omega arith) (sym c.are_zero.ensures ∙ c.if-are_zero.true) c.fill.ensures.len (c.fill.ensures.after (λ y e. e))
