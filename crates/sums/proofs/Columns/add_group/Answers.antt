-- `sums::Columns::add_group` meets its contract: one run of disks, or three, and after the last disk the parities that are not lost.
use native.Mathlib.Omega.{arith}
use mathlib.Core.Path.{sym, ◌∙◌}
use borrow.Author.Tests.{ltb-true}
use lib.Dec.{ltb}
use Rattle.base.proofs.Choice.{both_true}
use Rattle.sums.specs.Strip.{outside}
use Rattle.sums.proofs.Runs.{plain_added, runs_added, lower_min, higher_max}
use Rattle.sums.proofs.Strips.{staged_some, staged_stored}
use Rattle.sums.proofs.Columns.add_group.Goals as goal

pub returns-then-is_plain : goal.returns-then-is_plain
returns-then-is_plain c =
    let a = c.args in
    let plain = both_true (outside a.pair.x a.from a.to) _ (sym c.is_plain.ensures ∙ c.if-is_plain.true) in
    let rest = both_true (outside a.pair.y a.from a.to) (ltb 0 a.from) plain.1 in
    λ tails. staged_some _ _ (omega (arith, ltb-true 0 a.from rest.1)) (plain_added a.pair.x a.pair.y c.args.self.has plain.0 rest.0 c.add_disks.ensures tails)

pub returns-then-from-eq0 : goal.returns-then-from-eq0
returns-then-from-eq0 c = λ tails. staged_stored _ _ c.if-from-eq0.true ((runs_added c.args.pair.x c.args.pair.y c.args.self.has (lower_min c.min.ensures) (higher_max c.max.ensures) c.add_within-k.ensures c.add_within-k-2.ensures c.add_disks-2.ensures) tails) c.add_stored.ensures

pub returns-else-from-eq0 : goal.returns-else-from-eq0
returns-else-from-eq0 c = λ tails. staged_some _ _ c.if-from-eq0.false ((runs_added c.args.pair.x c.args.pair.y c.args.self.has (lower_min c.min.ensures) (higher_max c.max.ensures) c.add_within-k.ensures c.add_within-k-2.ensures c.add_disks-2.ensures) tails)
