-- The product respects the sum on both sides, so its laws hold at every pair of bytes once antt has computed them at the powers of two: 64
-- cases each. The product with a power of two is that with 02, again and again; associativity follows.
-- Assumes nothing.
use mathlib.Core.Path.{◌≡◌, refl, sym, ap, ap₂, ◌∙◌}
use mathlib.Core.Bool.{Bool}
use Prim.Native.Nat.{ℕ, zero, suc, ◌+◌, ◌-◌, ◌*◌, ◌/◌, ◌%◌, ◌^◌, ◌≤◌, ◌<◌}
use native.Mathlib.Nat.{mod-lt, zero-lt-suc, mod-mod, mod-eq_of_lt, zero-mul, one-mul, add-suc}
use native.Mathlib.Omega.{arith}
use lib.Dec.{T, lit<, lit≤}
use lib.Pow.{pow_pos, shl_lt, field, mod-mod-pow}
use lib.Bits.{xor_lt}
use Rattle.gf256.specs.Field.{bit, sum, double, carryless, reduced, remainder, product}
use Rattle.gf256.proofs.Check.{all, all_at, same, same_at}
use Rattle.gf256.proofs.Xor.{Digit, off, on, parity}
use Rattle.gf256.proofs.Additive.{Additive, additive_zero, additive_sum, additive_after, additive_shift, additive_shr, additive_mod, additive_digit, additive_times, agree}

-- ---- the product respects the sum
carryless_left : (k b : ℕ) → Additive (λ a. carryless k a b)
unfolding carryless
carryless_left zero b = λ x y. refl
carryless_left (suc k) b =
    additive_sum (λ a. carryless k a b) (λ a. bit b k * (a % 256 * 2 ^ k)) (carryless_left k b)
    (additive_after (λ a. bit b k * a) (λ a. a % 256 * 2 ^ k) (additive_times (parity (b / 2 ^ k)))
    (additive_after (λ a. a * 2 ^ k) (λ a. a % 256) (additive_shift k) (additive_mod 8)))

carryless_right : (k a : ℕ) → Additive (λ b. carryless k a b)
unfolding carryless
carryless_right zero a = λ x y. refl
carryless_right (suc k) a =
    additive_sum (λ b. carryless k a b) (λ b. bit b k * (a % 256 * 2 ^ k)) (carryless_right k a)
    (additive_after (λ d. d % 2 * (a % 256 * 2 ^ k)) (λ b. b / 2 ^ k) (additive_digit (a % 256 * 2 ^ k)) (additive_shr k))

remainder_additive : (k : ℕ) → Additive (remainder k)
unfolding remainder
remainder_additive zero = λ x y. refl
remainder_additive (suc k) =
    additive_after (remainder k) (λ c. sum (c % 2 ^ (8 + k)) (bit c (8 + k) * (reduced * 2 ^ k))) (remainder_additive k)
    (additive_sum (λ c. c % 2 ^ (8 + k)) (λ c. bit c (8 + k) * (reduced * 2 ^ k)) (additive_mod (8 + k))
    (additive_after (λ d. d % 2 * (reduced * 2 ^ k)) (λ c. c / 2 ^ (8 + k)) (additive_digit (reduced * 2 ^ k)) (additive_shr (8 + k))))

pub product_left : (b : ℕ) → Additive (λ a. product a b)
unfolding product
product_left b = additive_after (remainder 8) (λ a. carryless 8 a b) (remainder_additive 8) (carryless_left 8 b)

pub product_right : (a : ℕ) → Additive (product a)
unfolding product
product_right a = additive_after (remainder 8) (carryless 8 a) (remainder_additive 8) (carryless_right 8 a)

-- ---- it is a byte
bit_times : (x i k : ℕ) {m : ℕ} → m < 2 ^ k → bit x i * m < 2 ^ k
bit_times x i k {m} h = go (parity (x / 2 ^ i))
  where
    go : {d : ℕ} → Digit d → d * m < 2 ^ k
    go off = rw zero-mul (pow_pos k)
    go on = rw one-mul h

carryless_lt : (k a b : ℕ) → carryless k a b < 2 ^ (8 + k)
unfolding carryless
carryless_lt zero a b = lit< tt
carryless_lt (suc k) a b =
    rw add-suc
    (xor_lt (suc (8 + k)) (carryless k a b) (bit b k * (a % 256 * 2 ^ k)) (wider (carryless_lt k a b))
    (wider (bit_times b k (8 + k) (shl_lt 8 k (mod-lt a (zero-lt-suc 255))))))
  where
    wider : {n : ℕ} → n < 2 ^ (8 + k) → n < 2 ^ suc (8 + k)
    wider h = omega arith

remainder_lt : (k c : ℕ) → c < 2 ^ (8 + k) → remainder k c < 256
unfolding remainder
remainder_lt zero c h = h
remainder_lt (suc k) c h =
    remainder_lt k (sum (c % 2 ^ (8 + k)) (bit c (8 + k) * (reduced * 2 ^ k)))
    (xor_lt (8 + k) (c % 2 ^ (8 + k)) (bit c (8 + k) * (reduced * 2 ^ k)) (mod-lt c (pow_pos (8 + k)))
    (bit_times c (8 + k) (8 + k) (shl_lt 8 k (lit< tt))))

pub product_lt : (a b : ℕ) → product a b < 256
unfolding product
product_lt a b = remainder_lt 8 (carryless 8 a b) (carryless_lt 8 a b)

-- ---- only the low eight digits count
carryless_mod_left : (k a b : ℕ) → carryless k (a % 256) b ≡ carryless k a b
unfolding carryless
carryless_mod_left zero a b = refl
carryless_mod_left (suc k) a b =
    ap₂ (λ (c n : ℕ). sum c (bit b k * (n * 2 ^ k))) (carryless_mod_left k a b) (mod-mod a 256)

bit_mod : (x k : ℕ) → k < 8 → bit (x % 256) k ≡ bit x k
bit_mod x k h =
    ap (λ (n : ℕ). bit (x % 2 ^ n) k) split8
    ∙ ap (λ (n : ℕ). n % 2) (field x ((7 - k) + 1) k)
    ∙ mod-mod-pow (x / 2 ^ k) (7 - k) 1
  where
    split8 : 8 ≡ ((7 - k) + 1) + k
    split8 = omega arith

carryless_mod_right : (k a b : ℕ) → k ≤ 8 → carryless k a (b % 256) ≡ carryless k a b
unfolding carryless
carryless_mod_right zero a b h = refl
carryless_mod_right (suc k) a b h =
    ap₂ (λ (c d : ℕ). sum c (d * (a % 256 * 2 ^ k))) (carryless_mod_right k a b (omega arith)) (bit_mod b k h)

product_mod : (a b : ℕ) → product (a % 256) (b % 256) ≡ product a b
unfolding product
product_mod a b = ap (remainder 8) (carryless_mod_left 8 a (b % 256) ∙ carryless_mod_right 8 a b (lit≤ tt))

low : (n : ℕ) → n % 256 < 256
low n = mod-lt n (zero-lt-suc 255)

-- ---- the laws, computed at the powers of two
abbrev comm_at : ℕ → Bool
comm_at i = same 8 (λ j. product (2 ^ i) (2 ^ j)) (λ j. product (2 ^ j) (2 ^ i))

comm_tested : T (all 8 comm_at)
unfolding product carryless remainder
comm_tested = tt

pub product_comm : (a b : ℕ) → product a b ≡ product b a
product_comm a b = sym (product_mod a b) ∙ bytes (a % 256) (b % 256) (low a) (low b) ∙ product_mod b a
  where
    bytes : (a b : ℕ) → a < 256 → b < 256 → product a b ≡ product b a
    bytes a b ha hb =
        agree (λ x. product x b) (product b) (product_left b) (product_right b) 8
        (λ i hi.
        agree (product (2 ^ i)) (λ y. product y (2 ^ i)) (product_right (2 ^ i)) (product_left (2 ^ i)) 8
        (same_at 8 (λ j. product (2 ^ i) (2 ^ j)) (λ j. product (2 ^ j) (2 ^ i)) (all_at 8 comm_at comm_tested i hi))
        b hb)
        a ha

-- times 02 again and again: a factor of it may be taken out of the right side, and the product with 02^k is k of them
abbrev pub doubled : ℕ → ℕ → ℕ
doubled zero x = x
doubled (suc k) x = product 2 (doubled k x)

doubled_additive : (k : ℕ) → Additive (doubled k)
doubled_additive zero = λ x y. refl
doubled_additive (suc k) = additive_after (product 2) (doubled k) (product_right 2) (doubled_additive k)

abbrev out_at : ℕ → Bool
out_at i = same 8 (λ j. product (2 ^ i) (product 2 (2 ^ j))) (λ j. product 2 (product (2 ^ i) (2 ^ j)))

out_tested : T (all 8 out_at)
unfolding product carryless remainder
out_tested = tt

taken_out : (a b : ℕ) → a < 256 → b < 256 → product a (product 2 b) ≡ product 2 (product a b)
taken_out a b ha hb =
    agree (λ x. product x (product 2 b)) (λ x. product 2 (product x b)) (product_left (product 2 b))
    (additive_after (product 2) (λ x. product x b) (product_right 2) (product_left b)) 8
    (λ i hi.
    agree (λ y. product (2 ^ i) (product 2 y)) (λ y. product 2 (product (2 ^ i) y))
    (additive_after (product (2 ^ i)) (product 2) (product_right (2 ^ i)) (product_right 2))
    (additive_after (product 2) (product (2 ^ i)) (product_right 2) (product_right (2 ^ i))) 8
    (same_at 8 (λ j. product (2 ^ i) (product 2 (2 ^ j))) (λ j. product 2 (product (2 ^ i) (2 ^ j))) (all_at 8 out_at out_tested i hi))
    b hb)
    a ha

pub doubled_lt : (k x : ℕ) → x < 256 → doubled k x < 256
doubled_lt zero x h = h
doubled_lt (suc k) x h = product_lt 2 (doubled k x)

doubled_out : (k a b : ℕ) → a < 256 → b < 256 → product a (doubled k b) ≡ doubled k (product a b)
doubled_out zero a b ha hb = refl
doubled_out (suc k) a b ha hb = taken_out a (doubled k b) ha (doubled_lt k b hb) ∙ ap (product 2) (doubled_out k a b ha hb)

abbrev power_at : ℕ → Bool
power_at k = same 8 (λ i. product (2 ^ i) (2 ^ k)) (λ i. doubled k (2 ^ i))

power_tested : T (all 8 power_at)
unfolding product carryless remainder
power_tested = tt

pub by_power : (k x : ℕ) → k < 8 → x < 256 → product x (2 ^ k) ≡ doubled k x
by_power k x hk hx =
    agree (λ y. product y (2 ^ k)) (doubled k) (product_left (2 ^ k)) (doubled_additive k) 8
    (same_at 8 (λ i. product (2 ^ i) (2 ^ k)) (λ i. doubled k (2 ^ i)) (all_at 8 power_at power_tested k hk))
    x hx

pub product_assoc : (a b c : ℕ) → product (product a b) c ≡ product a (product b c)
product_assoc a b c =
    sym (product_mod (product a b) c)
    ∙ ap (λ (n : ℕ). product n (c % 256)) (mod-eq_of_lt (product_lt a b) ∙ sym (product_mod a b))
    ∙ bytes (a % 256) (b % 256) (c % 256) (low a) (low b) (low c)
    ∙ sym (ap (product (a % 256)) (mod-eq_of_lt (product_lt b c) ∙ sym (product_mod b c)))
    ∙ product_mod a (product b c)
  where
    bytes : (a b c : ℕ) → a < 256 → b < 256 → c < 256 → product (product a b) c ≡ product a (product b c)
    bytes a b c ha hb hc =
        agree (product (product a b)) (λ z. product a (product b z)) (product_right (product a b))
        (additive_after (product a) (product b) (product_right a) (product_right b)) 8
        (λ k hk.
        by_power k (product a b) hk (product_lt a b) ∙ sym (doubled_out k a b ha hb) ∙ ap (product a) (sym (by_power k b hk hb)))
        c hc

one_tested : T (same 8 (λ i. product 1 (2 ^ i)) (λ i. 2 ^ i))
unfolding product carryless remainder
one_tested = tt

pub product_one : (x : ℕ) → x < 256 → product 1 x ≡ x
product_one = agree (product 1) (λ x. x) (product_right 1) (λ x y. refl) 8 (same_at 8 (λ i. product 1 (2 ^ i)) (λ i. 2 ^ i) one_tested)

pub product_zero : (x : ℕ) → product x 0 ≡ 0
product_zero x = additive_zero (product x) (product_right x)

pub zero_product : (x : ℕ) → product 0 x ≡ 0
zero_product x = product_comm 0 x ∙ product_zero x

-- ---- times 02 is the product with 02, and the shift, computed at every byte
double_tested : T (same 256 double (product 2))
unfolding double product carryless remainder
double_tested = tt

pub double_product : (x : ℕ) → x < 256 → double x ≡ product 2 x
double_product = same_at 256 double (product 2) double_tested

shift_tested : T (same 256 (λ x. sum (x % 128 * 2) (x / 128 * 0x1d)) double)
unfolding double
shift_tested = tt

pub double_shift : (x : ℕ) → x < 256 → sum (x % 128 * 2) (x / 128 * 0x1d) ≡ double x
double_shift = same_at 256 (λ x. sum (x % 128 * 2) (x / 128 * 0x1d)) double shift_tested
