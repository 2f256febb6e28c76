-- A product by the digits of its first factor, from the lowest up.
-- Assumes nothing.
use mathlib.Core.Path.{◌≡◌, sym, ap, ap₂, ◌∙◌}
use Prim.Native.Nat.{ℕ, ◌+◌, ◌/◌, ◌%◌, ◌^◌, ◌<◌}
use native.Mathlib.Omega.{arith}
use native.Mathlib.Decide.{ℕ_discrete}
use borrow.Author.Tests.{eq-eqb, ne_eqb}
use lib.Dec.{T}
use lib.Pow.{shr-shr, shr_le}
use Rattle.gf256.specs.Field.{sum, double, product}
use Rattle.products.specs.Products.{plus_bit}
use Rattle.gf256.proofs.Check.{same, same_at}
use Rattle.gf256.proofs.Laws.{sum_assoc, zero_sum, sum_zero, product_lt, product_left, product_comm, product_assoc, product_one, zero_product, double_product, sum_comm, sum_exchange, xor_lt, product_right}

digits_tested : T (same 256 (λ c. c) (λ c. sum (c % 2) (double (c / 2))))
unfolding double
digits_tested = tt

pub double_lt : (x : ℕ) → x < 256 → double x < 256
double_lt x h = rw (double_product x h) (product_lt 2 x)

-- a + c x, with no digit left
pub no_digit : (a x : ℕ) {c : ℕ} → c ≡ 0 → sum a (product c x) ≡ a
no_digit a x e = rw e (ap (sum a) (zero_product x) ∙ sum_zero a)

module _ {c x : ℕ} (hc : c < 256) (hx : x < 256) where
  -- the product by the digits above the lowest
  abbrev rest : ℕ
  rest = product (c / 2) (double x)

  by_digit : product c x ≡ sum (product (c % 2) x) rest
  by_digit =
      ap (λ (n : ℕ). product n x) (same_at 256 (λ c. c) (λ c. sum (c % 2) (double (c / 2))) digits_tested c hc)
      ∙ product_left x (c % 2) (double (c / 2))
      ∙ ap (sum (product (c % 2) x))
      (ap (λ (n : ℕ). product n x) (double_product (c / 2) (omega arith) ∙ product_comm 2 (c / 2))
      ∙ product_assoc (c / 2) 2 x
      ∙ ap (product (c / 2)) (sym (double_product x hx)))

  -- and with the lowest digit dealt with
  pub even_digit : (a : ℕ) → c % 2 ≡ 0 → sum a rest ≡ sum a (product c x)
  even_digit a e =
      ap (sum a)
      (sym (by_digit ∙ rw e (ap (λ (n : ℕ). sum n rest) (zero_product x) ∙ zero_sum rest)))

  pub odd_digit : (a : ℕ) → c % 2 ≡ 1 → sum (sum a x) rest ≡ sum a (product c x)
  odd_digit a e =
      sum_assoc a x rest
      ∙ ap (sum a)
      (sym (by_digit ∙ rw e (ap (λ (n : ℕ). sum n rest) (product_one x hx))))

-- the product from the highest digit down: twice that by the digits above the lowest, and the lowest
pub by_high_digits : (m x : ℕ) → m < 256 → product m x ≡ sum (double (product (m / 2) x)) (product (m % 2) x)
by_high_digits m x h =
    ap (λ (n : ℕ). product n x) (same_at 256 (λ c. c) (λ c. sum (c % 2) (double (c / 2))) digits_tested m h)
    ∙ product_left x (m % 2) (double (m / 2))
    ∙ sum_comm (product (m % 2) x) (product (double (m / 2)) x)
    ∙ ap (λ (n : ℕ). sum n (product (m % 2) x))
    (ap (λ (n : ℕ). product n x) (double_product (m / 2) (omega arith)) ∙ product_assoc 2 (m / 2) x ∙ sym (double_product (product (m / 2) x) (product_lt (m / 2) x)))

-- a digit more of two products at once: d is their sum by the digits from k + 1 on, and gets those of k
pub combined_more : (a b x y : ℕ) {d : ℕ} (k : ℕ) → a < 256 → b < 256 → d ≡ sum (product (a / 2 ^ (k + 1)) x) (product (b / 2 ^ (k + 1)) y)
    → sum (sum (double d) (product (a / 2 ^ k % 2) x)) (product (b / 2 ^ k % 2) y) ≡ sum (product (a / 2 ^ k) x) (product (b / 2 ^ k) y)
combined_more a b x y {d} k ha hb e =
    sum_assoc (double d) (product (a / 2 ^ k % 2) x) (product (b / 2 ^ k % 2) y)
    ∙ ap (λ (n : ℕ). sum n (sum (product (a / 2 ^ k % 2) x) (product (b / 2 ^ k % 2) y))) doubled
    ∙ sum_exchange (double (product (a / 2 ^ k / 2) x)) (double (product (b / 2 ^ k / 2) y)) (product (a / 2 ^ k % 2) x) (product (b / 2 ^ k % 2) y)
    ∙ sym (ap₂ sum (by_high_digits (a / 2 ^ k) x (omega (arith, shr_le a k))) (by_high_digits (b / 2 ^ k) y (omega (arith, shr_le b k))))
  where
    half : (c : ℕ) → c / 2 ^ (k + 1) ≡ c / 2 ^ k / 2
    half c = sym (shr-shr c k 1)

    P : ℕ
    P = product (a / 2 ^ k / 2) x

    Q : ℕ
    Q = product (b / 2 ^ k / 2) y

    doubled : double d ≡ sum (double P) (double Q)
    doubled =
        ap double (e ∙ ap₂ sum (ap (λ (c : ℕ). product c x) (half a)) (ap (λ (c : ℕ). product c y) (half b)))
        ∙ double_product (sum P Q) (xor_lt 8 P Q (product_lt (a / 2 ^ k / 2) x) (product_lt (b / 2 ^ k / 2) y))
        ∙ product_right 2 P Q
        ∙ ap₂ sum (sym (double_product P (product_lt (a / 2 ^ k / 2) x))) (sym (double_product Q (product_lt (b / 2 ^ k / 2) y)))

-- no digit yet, and all of them
pub combined_none : (a b x y : ℕ) → a < 256 → b < 256 → sum (product (a / 2 ^ 8) x) (product (b / 2 ^ 8) y) ≡ 0
combined_none a b x y ha hb =
    let no_a : a / 2 ^ 8 ≡ 0 = omega arith in
    let no_b : b / 2 ^ 8 ≡ 0 = omega arith in
    rw (no_a, no_b) (ap₂ sum (zero_product x) (zero_product y))

-- a bit's part in a product
pub plus_bit_lem : (a m x : ℕ) → x < 256 → plus_bit a m x ≡ sum a (product (m % 2) x)
plus_bit_lem a m x h = go (ℕ_discrete (m % 2) 1)
  where
    go : Dec (m % 2 ≡ 1) → plus_bit a m x ≡ sum a (product (m % 2) x)
    go (yes e) = rw (eq-eqb (m % 2) 1 e, e) (ap (sum a) (sym (product_one x h)))
    go (no n) =
        let none : m % 2 ≡ 0 = omega arith in rw (ne_eqb (m % 2) 1 n, none) (sym (ap (sum a) (zero_product x) ∙ sum_zero a))
