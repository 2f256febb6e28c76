-- `products::add_product` meets its contract.
use mathlib.Core.Path.{◌≡◌, sym, ap, ◌∙◌}
use Prim.Native.Nat.{ℕ, ◌/◌, ◌<◌}
use native.Mathlib.Omega.{arith}
use lib.ListN.{length, get_or}
use Rattle.gf256.specs.Field.{sum, double, product}
use Rattle.base.proofs.Table.{length_tabulate, get_d_tabulate, is_tabulate}
use Rattle.chunk.specs.Chunk.{width}
use Rattle.products.proofs.Digits.{double_lt, no_digit, even_digit, odd_digit}
use Rattle.products.proofs.add_product.Goals as goal
use Rattle.products.proofs.add_product.Goals.{then-c-eq1, else-c-eq1}

pub loop-c-preserved : goal.loop-c-preserved
loop-c-preserved c =
    let l = c.loop-c in
    let here : (length c.if-c-eq1.a ≡ width) × ((j : ℕ) → j < width → sum (get_or c.if-c-eq1.a j 0) (product (l.c / 2) (double (get_or l.x j 0))) ≡ sum (get_or l.a j 0) (product l.c (get_or l.x j 0))) =
    elim c.if-c-eq1.branch [
      | then-c-eq1 w ↦ (let a = w.a-is ∙ w.add.ensures in (ap length a ∙ length_tabulate _ _, λ j p. rw (a, get_d_tabulate) (odd_digit l.invariant.0 (l.invariant.2 j p) (get_or l.a j 0) w.if-c-eq1.true)))
      | else-c-eq1 w ↦ (ap length w.a-is ∙ l.invariant.1, λ j p. rw w.a-is (even_digit l.invariant.0 (l.invariant.2 j p) (get_or l.a j 0) (omega (arith, w.if-c-eq1.false))))
    ] in
    let x = c.double.ensures in (
      omega arith,
      here.0,
      λ j p. rw (x, get_d_tabulate) (double_lt (get_or l.x j 0) (l.invariant.2 j p)),
      λ j p. rw (x, get_d_tabulate) (here.1 j p ∙ l.invariant.3 j p),
    )

pub returns : goal.returns
returns c =
    let l = c.loop-c in
    is_tabulate width _ l.a l.invariant.1
    (λ j p. sym (no_digit (get_or l.a j 0) (get_or l.x j 0) c.loop-c-test.false) ∙ l.invariant.3 j p)
