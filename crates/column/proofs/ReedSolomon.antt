-- The Reed-Solomon code of the paper is lawful, at bytes and up to 255 data disks: by the laws of the field. The last two laws are the
-- paper's equations 3 to 5 and 6 to 20.
-- Assumes nothing.
use mathlib.Core.Path.{◌≡◌, refl, sym, ap, ap₂, ◌∙◌}
use mathlib.Core.Logic.{◌≢◌}
use Prim.Native.Nat.{ℕ, zero, suc, ◌<◌}
use lib.Dec.{lit<}
use Rattle.gf256.specs.Field.{sum, product, power, reciprocal, quotient}
use Rattle.gf256.proofs.Laws.{sum_comm, sum_assoc, sum_cancel, sum_only_zero, sum_zero, xor_lt, product_lt, product_left, product_right, product_comm, product_assoc, product_one, product_zero, zero_product, power_lt, power_of_two_nonzero, power_of_two_injective, product_inverse, product_only_zero, powers_only_zero}
use Rattle.column.specs.Column.{over_power, ratio, divisor, coefficients_by, coefficients, reed_solomon}
use Rattle.column.specs.Lawful.{Lawful}

-- dividing by a power of 02 and multiplying by it again
undone : (k q : ℕ) → q < 256 → product (power 2 k) (product (over_power k) q) ≡ q
undone k q h =
    sym (product_assoc (power 2 k) (over_power k) q)
    ∙ ap (λ (x : ℕ). product x q) (product_inverse (power 2 k) (power_lt 2 k) (power_of_two_nonzero k))
    ∙ product_one q h

-- 02^x times the ratio is 02^y
ratio_back : (x y : ℕ) → product (power 2 x) (ratio y x) ≡ power 2 y
ratio_back x y = ap (product (power 2 x)) (product_comm (power 2 y) (over_power x)) ∙ undone x (power 2 y) (power_lt 2 y)

-- 02^x + 02^y is 02^x times what equations 17 and 18 divide by
both : (x y : ℕ) → sum (power 2 x) (power 2 y) ≡ product (power 2 x) (divisor x y)
both x y =
    sum_comm (power 2 x) (power 2 y)
    ∙ ap₂ sum (sym (ratio_back x y)) (sym (product_comm (power 2 x) 1 ∙ product_one (power 2 x) (power_lt 2 x)))
    ∙ sym (product_right (power 2 x) (ratio y x) 1)

-- 02^(y-x) + 01 is not 00 for two different disks below 255
pub divisor_nonzero : (x y : ℕ) → x < 255 → y < 255 → x ≢ y → divisor x y ≢ 0
divisor_nonzero x y hx hy other e =
    other (power_of_two_injective x y hx hy (sum_only_zero (power 2 x) (power 2 y) (both x y ∙ ap (product (power 2 x)) e ∙ product_zero (power 2 x))))

-- equations 17 and 18
pub coefficients_are : (x y : ℕ) (other : divisor x y ≢ 0)
    → coefficients x y ≡ record { first = quotient (ratio y x) (divisor x y) other; second = quotient (over_power x) (divisor x y) other }
unfolding coefficients
coefficients_are x y other = go (divisor x y) other
  where
    go : (d : ℕ) (n : d ≢ 0) → coefficients_by x y d ≡ record { first = quotient (ratio y x) d n; second = quotient (over_power x) d n }
    go zero n = absurd (n refl)
    go (suc d) n = refl

-- one disk named twice: equation 19 gives what equation 1 does
pub split_same : (x p q : ℕ) → p < 256 → reed_solomon.split x x p q ≡ p
unfolding reed_solomon coefficients
split_same x p q h =
    ap (λ (d : ℕ). sum (product (coefficients_by x x d).first p) (product (coefficients_by x x d).second q))
    (ap (λ (r : ℕ). sum r 1) (product_inverse (power 2 x) (power_lt 2 x) (power_of_two_nonzero x)))
    ∙ ap₂ sum (product_one p h) (zero_product q)
    ∙ sum_zero p

module _ (x y : ℕ) (hx : x < 255) (hy : y < 255) (apart : x ≢ y) where
  abbrev gx : ℕ
  gx = power 2 x

  abbrev gy : ℕ
  gy = power 2 y

  abbrev scale : ℕ
  scale = reciprocal (divisor x y) (divisor_nonzero x y hx hy apart)

  -- the divisor cancels
  divided : (v : ℕ) → v < 256 → product (sum gx gy) (product v scale) ≡ product gx v
  divided v h =
      ap (λ (d : ℕ). product d (product v scale)) (both x y)
      ∙ product_assoc gx (divisor x y) (product v scale)
      ∙ ap (product gx)
      (product_comm (divisor x y) (product v scale)
      ∙ product_assoc v scale (divisor x y)
      ∙ ap (product v)
      (product_comm scale (divisor x y)
      ∙ product_inverse (divisor x y) (xor_lt 8 (ratio y x) 1 (product_lt gy (over_power x)) (lit< tt)) (divisor_nonzero x y hx hy apart))
      ∙ product_comm v 1
      ∙ product_one v h)

  module _ (p q : ℕ) (hp : p < 256) (hq : q < 256) where
    abbrev d : ℕ
    d = sum (product (product (ratio y x) scale) p) (product (product (over_power x) scale) q)

    -- equation 15, multiplied by 02^x
    solved : product (sum gx gy) d ≡ sum (product gy p) q
    solved =
        product_right (sum gx gy) (product (product (ratio y x) scale) p) (product (product (over_power x) scale) q)
        ∙ ap₂ sum
        (sym (product_assoc (sum gx gy) (product (ratio y x) scale) p)
        ∙ ap (λ (v : ℕ). product v p) (divided (ratio y x) (product_lt gy (over_power x)) ∙ ratio_back x y))
        (sym (product_assoc (sum gx gy) (product (over_power x) scale) q)
        ∙ ap (λ (v : ℕ). product v q) (divided (over_power x) (power_lt gx 254) ∙ product_inverse gx (power_lt 2 x) (power_of_two_nonzero x))
        ∙ product_one q hq)

    split_law : sum (product gx (reed_solomon.split x y p q)) (product gy (sum p (reed_solomon.split x y p q))) ≡ q
    unfolding reed_solomon
    split_law =
        rw (coefficients_are x y (divisor_nonzero x y hx hy apart))
        (ap (sum (product gx d)) (product_right gy p d ∙ sum_comm (product gy p) (product gy d))
        ∙ sym (sum_assoc (product gx d) (product gy d) (product gy p))
        ∙ ap (λ (v : ℕ). sum v (product gy p)) (sym (product_left d gx gy) ∙ solved)
        ∙ sum_comm (sum (product gy p) q) (product gy p)
        ∙ sum_cancel (product gy p) q)

pub reed_solomon_lem : Lawful reed_solomon 8 255
unfolding reed_solomon
reed_solomon_lem =
    record {
      act_sum = λ k. product_right (power 2 k);
      act_closed = λ k x h. product_lt (power 2 k) x;
      act_only_zero = λ k x hk h e. product_only_zero (power 2 k) x (power_lt 2 k) h (power_of_two_nonzero k) e;
      pair_only_zero = λ i j x hi hj n h e. powers_only_zero i j x hi hj n h e;
      undo_act = λ k q hk h. undone k q h;
      undo_closed = λ k q h. product_lt (over_power k) q;
      split_act = λ x y p q hx hy n hp hq. split_law x y hx hy n p q hp hq;
      split_closed = λ x y p q hp hq.
          xor_lt 8 (product (coefficients x y).first p) (product (coefficients x y).second q) (product_lt (coefficients x y).first p) (product_lt (coefficients x y).second q);
    }
