-- `compare::Stripe::check_part` meets its contract: p and q hold P* and Q* of each column, without a role that no stripe has.
use mathlib.Core.Path.{sym, ◌∙◌}
use lib.ListN.{length}
use Rattle.verdict.proofs.Summary.{summary_as}
use Rattle.verdict.proofs.Zeros.{zeros_told}
use Rattle.compare.proofs.Verdicts.{verdicts_summed}
use Rattle.compare.proofs.Stripe.check_part.Goals as goal

pub returns-then-are_zero : goal.returns-then-are_zero
returns-then-are_zero c =
    let a = c.args in
    let r = c.part_survivors-s.result in
    let k = length a.room.now in
    summary_as (verdicts_summed a.i k a.self.shaped c.requires (rw c.beyond.ensures at c.part_survivors-s.ensures))
    (zeros_told a.self.g.n r.p r.q k c.requires.1 (sym c.are_zero.ensures ∙ c.if-are_zero.true) c.fill.ensures.len (c.fill.ensures.after (λ y e. e)))

pub returns : goal.returns
returns c =
    let a = c.args in
    summary_as (verdicts_summed a.i (length a.room.now) a.self.shaped c.requires (rw c.beyond.ensures at c.part_survivors-s.ensures)) c.verdicts_by_place.ensures
