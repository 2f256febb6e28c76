-- Functions that respect the sum. Two of them that agree at the powers of two below 2^k agree at every number below 2^k, since
-- such a number is the sum of the powers at its digits.
-- Assumes nothing.
use mathlib.Core.Path.{◌≡◌, sym, ap, ap₂, ◌∙◌}
use Prim.Native.Nat.{ℕ, zero, suc, ◌*◌, ◌/◌, ◌%◌, ◌^◌, ◌<◌}
use native.Mathlib.Nat.{mod-lt, le_refl, add-zero, one-mul, zero-mul}
use native.Mathlib.Numerals.{one-add}
use native.Mathlib.Omega.{arith}
use lib.Arith.{lt-one}
use lib.Pow.{pow_pos, split, shr_lt}
use lib.Bits.{bit_xor, differ, xor_zero_l, xor_zero_r, xor_self, xor_shr, xor_mod, xor_block, xor_shifted}
use Rattle.gf256.proofs.Xor.{Digit, off, on, digit, parity, xor_odd, xor_exchange}

abbrev pub Additive : (ℕ → ℕ) → Type 0
Additive f = (x y : ℕ) → f (bit_xor x y) ≡ bit_xor (f x) (f y)

pub additive_zero : (f : ℕ → ℕ) → Additive f → f 0 ≡ 0
additive_zero f add = ap f (sym (xor_self 0)) ∙ add 0 0 ∙ xor_self (f 0)

pub additive_sum : (f g : ℕ → ℕ) → Additive f → Additive g → Additive (λ x. bit_xor (f x) (g x))
additive_sum f g add_f add_g x y = ap₂ bit_xor (add_f x y) (add_g x y) ∙ xor_exchange (f x) (f y) (g x) (g y)

pub additive_after : (f g : ℕ → ℕ) → Additive f → Additive g → Additive (λ x. f (g x))
additive_after f g add_f add_g x y = ap f (add_g x y) ∙ add_f (g x) (g y)

-- shifting left, shifting right, and the low digits
pub additive_shift : (k : ℕ) → Additive (λ x. x * 2 ^ k)
additive_shift k x y =
    sym
    (ap₂ bit_xor (sym (add-zero (x * 2 ^ k))) (sym (add-zero (y * 2 ^ k)))
    ∙ xor_block k x y 0 0 (pow_pos k) (pow_pos k)
    ∙ add-zero (bit_xor x y * 2 ^ k))

pub additive_shr : (k : ℕ) → Additive (λ x. x / 2 ^ k)
additive_shr k x y = xor_shr x y k

pub additive_mod : (k : ℕ) → Additive (λ x. x % 2 ^ k)
additive_mod k x y = xor_mod x y k

-- a digit of the argument times a constant, and a constant digit times the argument
pub additive_digit : (m : ℕ) → Additive (λ x. x % 2 * m)
additive_digit m x y = ap (λ (n : ℕ). n * m) (xor_odd x y) ∙ scaled (parity x) (parity y)
  where
    scaled : {a b : ℕ} → Digit a → Digit b → differ a b * m ≡ bit_xor (a * m) (b * m)
    scaled {b = b} off q = simp (zero-mul, xor_zero_l)
    scaled on off = simp (zero-mul, xor_zero_r)
    scaled on on = simp (zero-mul, xor_self)

pub additive_times : {d : ℕ} → Digit d → Additive (λ x. d * x)
additive_times off x y = simp zero-mul
additive_times on x y = simp one-mul

-- a number is the sum of its digits from the kth up and those below
pub parted : (x k : ℕ) → x ≡ bit_xor (x / 2 ^ k * 2 ^ k) (x % 2 ^ k)
parted x k = sym (xor_shifted (x / 2 ^ k) k (x % 2 ^ k) (mod-lt x (pow_pos k)) ∙ split x k)

module _ (f g : ℕ → ℕ) (add_f : Additive f) (add_g : Additive g) where
  pub agree : (k : ℕ) → ((i : ℕ) → i < k → f (2 ^ i) ≡ g (2 ^ i)) → (x : ℕ) → x < 2 ^ k → f x ≡ g x
  agree zero basis x h = ap f (lt-one h) ∙ additive_zero f add_f ∙ sym (ap g (lt-one h) ∙ additive_zero g add_g)
  agree (suc k) basis x h =
      ap f (parted x k)
      ∙ add_f (x / 2 ^ k * 2 ^ k) (x % 2 ^ k)
      ∙ ap₂ bit_xor (top (digit (x / 2 ^ k) (shr_lt 1 k (rw one-add h))))
      (agree k (λ i l. basis i (omega arith)) (x % 2 ^ k) (mod-lt x (pow_pos k)))
      ∙ sym (ap g (parted x k) ∙ add_g (x / 2 ^ k * 2 ^ k) (x % 2 ^ k))
    where
      top : {d : ℕ} → Digit d → f (d * 2 ^ k) ≡ g (d * 2 ^ k)
      top off = rw zero-mul (additive_zero f add_f ∙ sym (additive_zero g add_g))
      top on = rw one-mul (basis k (le_refl (suc k)))
