-- `serials::Serials::get` meets its contract: the first serial begins at 0, and each other after the end before it.
use mathlib.Core.Path.{◌≡◌, sym, ap, ◌∙◌}
use mathlib.Core.List.{[]}
use Prim.Native.Nat.{ℕ, suc, ◌+◌, ◌-◌, min}
use native.Mathlib.Omega.{arith}
use lib.ListN.{length, get_or, take, drop, get_or-eq_default}
use Rattle.serials.specs.Serials.{serials}
use Rattle.serials.proofs.Laws.{length_serials, first_serial, later_serial, after_clamped}
use Rattle.serials.proofs.Serials.get.Goals as goal

pub returns-then-self-slot : goal.returns-then-self-slot
returns-then-self-slot c =
    let s = c.self.inside in
    rw (← c.self.view_is) (sym (get_or-eq_default (serials s.chars.now s.ends.now) [] (omega (arith, length_serials s.chars.now 0 s.ends.now))))

pub returns-then-slot-eq0 : goal.returns-then-slot-eq0
returns-then-slot-eq0 c =
    let s = c.self.inside in
    rw (← c.self.view_is) (c.part.ensures ∙ sym (rw c.if-slot-eq0.true (first_serial s.chars.now 0 s.ends.now (omega arith))))

pub returns : goal.returns
returns c =
    let s = c.self.inside in
    let k = c.args.slot - 1 in
    let next : c.args.slot ≡ suc k = omega arith in
    let begins : c.min-before.result + 1 ≡ suc (min (get_or s.ends.now k 0) (length s.chars.now)) = omega (arith, c.min-before.ensures) in
    rw (← c.self.view_is)
    (c.part-2.ensures
    ∙ ap (λ (start : ℕ). take (get_or s.ends.now c.args.slot 0 - start) (drop start s.chars.now)) begins
    ∙ after_clamped s.chars.now (get_or s.ends.now k 0) (get_or s.ends.now c.args.slot 0)
    ∙ sym (later_serial s.chars.now 0 s.ends.now next (omega arith)))
