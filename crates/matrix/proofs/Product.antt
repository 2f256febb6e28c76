-- The product M v is zero where each row shares an even number of ones with v.
-- Assumes nothing.
use mathlib.Core.Path.{◌≡◌, sym, ap, ◌∙◌}
use mathlib.Core.Bool.{true, ◌&&◌}
use Prim.Native.Nat.{ℕ, zero, suc, ◌+◌, ◌*◌, ◌%◌, ◌^◌, ◌<◌}
use native.Mathlib.Nat.{zero-mul, le-mul_of_pos_right}
use native.Mathlib.Omega.{arith}
use borrow.Author.Tests.{ne_eqb}
use lib.Bits.{bit_and, and_le_r}
use lib.Count
use lib.Dec.{eqb}
use lib.ListN.{length}
use lib.Pow.{pow_pos}
use Rattle.std.specs.List.{list_all}
use Rattle.matrix.specs.Fold.{sum, all}
use Rattle.matrix.specs.Matrix.{Matrix, bit, row, component, apply}
use Rattle.matrix.proofs.Fold.{fold_ext, zero_terms}
use Rattle.matrix.proofs.Elements.{all_elements}
use Rattle.matrix.proofs.Bits.{bit_and_lem, ones_bits}

-- a bit of the product is the parity of the ones that row and vector share
pub component_and : (m : Matrix) (v r : ℕ) → sum 8 (λ c. bit (bit_and (row m r) v) c) % 2 ≡ component m v r
unfolding component
component_and m v r = ap (λ (n : ℕ). n % 2) (fold_ext ◌+◌ 0 8 _ _ (λ c _. bit_and_lem (row m r) v c))

-- a row's product, and its share of the product
scaled : (x r : ℕ) → eqb (x * 2 ^ r) 0 ≡ eqb x 0
scaled zero r = ap (λ (n : ℕ). eqb n 0) (zero-mul (2 ^ r))
scaled (suc x) r =
    ne_eqb (suc x * 2 ^ r) 0 (λ e. absurd (omega (arith, le-mul_of_pos_right (suc x) (pow_pos r)))) ∙ sym (ne_eqb (suc x) 0 (λ e. absurd (omega arith)))

-- the test of the product, by rows
pub zero_rows : (m : Matrix) (v : ℕ) → length m ≡ 8 → v < 256 → list_all (λ row. eqb (Count.ones (bit_and row v) % 2) 0) m ≡ eqb (apply m v) 0
unfolding apply
zero_rows m v eight l =
    all_elements m 0 (λ row. eqb (Count.ones (bit_and row v) % 2) 0)
    ∙ ap (λ (n : ℕ). all n (λ r. eqb (Count.ones (bit_and (row m r) v) % 2) 0)) eight
    ∙ fold_ext ◌&&◌ true 8 _ _ (λ r _.
    ap (λ (n : ℕ). eqb (n % 2) 0) (ones_bits 8 (bit_and (row m r) v) (omega (arith, and_le_r (row m r) v)))
    ∙ ap (λ (n : ℕ). eqb n 0) (component_and m v r)
    ∙ sym (scaled (component m v r) r))
    ∙ sym (zero_terms 8 (λ r. component m v r * 2 ^ r))
