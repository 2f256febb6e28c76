-- `restore::set_carried` meets its contract: the bytes of both roles are the rule's.
use mathlib.Core.Path.{ap, ◌∙◌}
use mathlib.Core.List.{List}
use Prim.Native.Nat.{ℕ, ◌+◌}
use lib.ListN.{get_or}
use native.Mathlib.Omega.{arith}
use Rattle.chunk.proofs.Laws.{each_at}
use Rattle.losses.proofs.Without.{solved_carried}
use Rattle.shape.specs.Layout.{column}
use Rattle.shape.proofs.Columns.{columns_as}
use Rattle.stretch.proofs.Laws.{set_two}
use Rattle.restore.proofs.Laws.{survivors_seen}
use Rattle.restore.proofs.set_carried.Goals as goal

pub returns : goal.returns
returns c =
    let a = c.args in
    let h = c.requires.0 in
    let sums = survivors_seen h c.requires.2 in
    columns_as (set_two h a.sums.p c.add_product.new.a c.requires.1.0 c.requires.1.1 c.set.ensures c.set-2.ensures)
    (λ j l.
    solved_carried a.at.g.n a.pair.x a.pair.y (column a.at.g a.stripe.now (a.at.i + j)) (sums.first j l) (sums.second j l) a.c.0
    (ap (λ (l : List ℕ). get_or l j 0) c.add_product.ensures ∙ each_at _ j (omega (arith, h.held))))
