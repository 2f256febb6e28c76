-- `stretch::Stretch::place` meets its contract.
use native.Mathlib.Omega.{arith}
use Rattle.stretch.proofs.Laws.{placed}
use Rattle.stretch.proofs.Stretch.place.Goals as goal

pub overflow_add-result : goal.overflow_add-result
overflow_add-result c =
    let a = c.args in
    let at = placed a.self.g a.stripe.now a.role a.self.i a.self.w c.is_on.ensures c.if-not-is_on.false c.start.ensures in
    omega arith

pub returns : goal.returns
returns c =
    let a = c.args in
    placed a.self.g a.stripe.now a.role a.self.i a.self.w c.is_on.ensures c.if-not-is_on.false c.start.ensures
