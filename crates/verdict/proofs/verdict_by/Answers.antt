-- `verdict::verdict_by` meets its contract: where Q* is the multiple of P* at every place, the unclean columns agree.
use mathlib.Core.Path.{◌≡◌, sym, ap, ◌∙◌}
use Prim.Native.Nat.{ℕ}
use native.Mathlib.Omega.{arith}
use Rattle.gf256.specs.Field.{product}
use Rattle.gf256.proofs.Laws.{zero_product}
use Rattle.column.specs.Column.{verdict_of}
use Rattle.column.proofs.Verdicts.{row_p, row_multiple}
use Rattle.chunk.proofs.Bytes.{bytes}
use Rattle.verdict.proofs.Common.{told_multiple}
use Rattle.verdict.proofs.verdict_by.Goals as goal

pub returns-then-c-eq0 : goal.returns-then-c-eq0
returns-then-c-eq0 c =
    let a = c.args in
    let none : a.c.0 ≡ 0 = omega arith in
    let p = c.well_formed.1.0.1.1.0 in
    told_multiple a.n a.sums.p a.sums.q a.c.0 (bytes a.sums.p p.0 p.1.1) c.requires
    (rw c.add_product.ensures at (sym c.are_zero.ensures ∙ c.if-not-are_zero.false))
    (λ x other h. ap (verdict_of _ x) (ap (λ (r : ℕ). product r x) none ∙ zero_product x) ∙ row_p _ x other)

pub returns-else-c-eq0 : goal.returns-else-c-eq0
returns-else-c-eq0 c =
    let a = c.args in
    let p = c.well_formed.1.0.1.1.0 in
    told_multiple a.n a.sums.p a.sums.q a.c.0 (bytes a.sums.p p.0 p.1.1) c.requires
    (rw c.add_product.ensures at (sym c.are_zero.ensures ∙ c.if-not-are_zero.false))
    (λ x other h. row_multiple _ x _ other h (omega arith) (omega arith) ∙ sym c.located.ensures)
