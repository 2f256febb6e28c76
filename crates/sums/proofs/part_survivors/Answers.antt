-- `sums::part_survivors` meets its contract.
use mathlib.Core.Path.{◌≡◌, sym, ◌∙◌}
use native.Mathlib.Omega.{arith}
use Rattle.losses.specs.Losses.{without}
use Rattle.stretch.specs.Stretch.{column_of}
use Rattle.sums.proofs.Horner.{tails_none, tails_more, tails_stored}
use Rattle.sums.proofs.Zeros.{no_sums}
use Rattle.chunk.proofs.Bytes.{bytes}
use Rattle.sums.proofs.part_survivors.Goals as goal

pub returns-then-not-is_in : goal.returns-then-not-is_in
returns-then-not-is_in c = let a = c.args in no_sums a.at.g a.stripe.now a.at.i a.at.w (sym c.is_in.ensures ∙ c.if-not-is_in.true) a.at.g.n a.pair.x a.pair.y

pub loop-k-init : goal.loop-k-init
loop-k-init c = tails_none _ _

pub loop-k-preserved : goal.loop-k-preserved
loop-k-preserved c =
    let a = c.args in
    let l = c.loop-k in
    let d = c.load_but-d in
    tails_more a.at.g.n (λ j. without a.pair.x a.pair.y (column_of a.at.g a.stripe.now a.at.i a.at.w j)) d.result (omega arith) (omega arith) l.invariant d.ensures (bytes d.result d.type_inv.0 d.type_inv.1.1) c.add_disk.ensures.0 c.add_disk.ensures.1

pub returns : goal.returns
returns c =
    let a = c.args in
    let l = c.loop-k in
    let none : l.k ≡ 0 = omega arith in
    tails_stored a.at.g.n (λ j. without a.pair.x a.pair.y (column_of a.at.g a.stripe.now a.at.i a.at.w j)) (rw none at l.invariant) c.add_stored.ensures
