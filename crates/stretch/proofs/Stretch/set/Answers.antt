-- `stretch::Stretch::set` meets its contract: what lies in the buffer is lent as a part, and what lies around it stays.
use Prim.Native.Nat.{◌+◌}
use native.Mathlib.Omega.{arith}
use borrow.Rule.Slice.PartMut.{Post-is}
use Rattle.stretch.proofs.Laws.{set_there}
use Rattle.stretch.proofs.Stretch.set.Goals as goal

pub returns-in-Some : goal.returns-in-Some
returns-in-Some c =
    let a = c.args in
    let at = c.in-Some.at in
    set_there c.in-Some.ensures a.new c.store.ensures (Post-is at (at + a.self.w) a.stripe.now (omega (arith, c.in-Some.ensures)))
