-- `sums::strip_survivors` meets its contract.
use mathlib.Core.Path.{◌≡◌, sym, ◌∙◌}
use Prim.Native.Nat.{◌-◌, ◌*◌}
use native.Mathlib.Omega.{arith}
use Rattle.sums.proofs.Strips.{has_strip_lem, strip_none}
use Rattle.sums.proofs.strip_survivors.Goals as goal

pub loop-m-init : goal.loop-m-init
loop-m-init c =
    let a = c.args in
    let first : a.g.n - 8 * 0 ≡ a.g.n = omega arith in
    rw first (strip_none (has_strip_lem a.g a.stripe.now a.i (sym c.has_strip.ensures ∙ c.if-not-has_strip.false)) a.pair.x a.pair.y)
