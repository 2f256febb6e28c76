-- `products::combine` meets its contract.
use mathlib.Core.Path.{◌≡◌, refl, sym, ap, ap₂, ◌∙◌}
use mathlib.Core.List.{List}
use Prim.Native.Nat.{ℕ, ◌+◌, ◌-◌, ◌/◌, ◌%◌, ◌^◌}
use native.Mathlib.Omega.{arith}
use lib.ListN.{length, get_or, get_or-replicate}
use Rattle.base.proofs.Table.{length_tabulate, get_d_tabulate, is_tabulate}
use Rattle.gf256.specs.Field.{sum, double, product}
use Rattle.chunk.specs.Chunk.{width}
use Rattle.chunk.proofs.Bytes.{bytes}
use Rattle.products.specs.Products.{plus_bit}
use Rattle.products.proofs.Digits.{plus_bit_lem, combined_none, combined_more}
use Rattle.products.proofs.combine.Goals as goal

pub loop-k-init : goal.loop-k-init
loop-k-init c = (refl, λ j h. get_or-replicate width j 0 0 h ∙ sym (combined_none c.args.a.0 c.args.b.0 (get_or c.args.p j 0) (get_or c.args.q j 0) (omega arith) (omega arith)))

pub loop-k-preserved : goal.loop-k-preserved
loop-k-preserved c =
    let a = c.args.a.0 in
    let b = c.args.b.0 in
    let l = c.loop-k in
    let k = l.k - 1 in
    let next : l.k ≡ k + 1 = omega arith in (
      ap length c.add_bits.ensures ∙ length_tabulate width _,
      λ j h.
          let x = get_or c.args.p j 0 in
          let y = get_or c.args.q j 0 in
          ap (λ (l : List ℕ). get_or l j 0) c.add_bits.ensures
          ∙ get_d_tabulate width _ j 0 h
          ∙ plus_bit_lem (plus_bit (double (get_or l.d j 0)) (a / 2 ^ k) x) (b / 2 ^ k) y (let v = c.well_formed.1.1.1.0 in bytes c.args.q v.0 v.1.1 j)
          ∙ ap (λ (v : ℕ). sum v (product (b / 2 ^ k % 2) y)) (plus_bit_lem (double (get_or l.d j 0)) (a / 2 ^ k) x (let v = c.well_formed.1.0 in bytes c.args.p v.0 v.1.1 j))
          ∙ combined_more a b x y k (omega arith) (omega arith) (l.invariant.1 j h ∙ ap (λ (m : ℕ). sum (product (a / 2 ^ m) x) (product (b / 2 ^ m) y)) next),
    )

pub returns : goal.returns
returns c =
    let l = c.loop-k in
    let a = c.args in
    let all : l.k ≡ 0 = omega arith in
    is_tabulate width _ l.d l.invariant.0 (λ j h. l.invariant.1 j h ∙ ap (λ (m : ℕ). sum (product (a.a.0 / 2 ^ m) (get_or a.p j 0)) (product (a.b.0 / 2 ^ m) (get_or a.q j 0))) all ∙ ap₂ (λ (x y : ℕ). sum (product x (get_or a.p j 0)) (product y (get_or a.q j 0))) (omega arith) (omega arith))
