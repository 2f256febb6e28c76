-- The bits of a number: a number is its bits, `&` and `^` work on each apart, and the language's count of ones is their sum.
-- Assumes nothing.
use mathlib.Core.Path.{◌≡◌, refl, sym, ap, ap₂, ◌∙◌}
use Prim.Native.Nat.{ℕ, zero, suc, ◌+◌, ◌*◌, ◌/◌, ◌%◌, ◌^◌, ◌≤◌, ◌<◌}
use native.Mathlib.Nat.{div-one}
use native.Mathlib.Numerals.{one-add, add-one}
use native.Mathlib.Omega.{arith}
use lib.Arith.{half_le, lt-one}
use lib.Bits.{bit_and, bit_xor, and_shr, and_mod, xor_shr, xor_mod, xor_zero_r}
use lib.Count
use lib.Pow.{shr-shr, shr_lt}
use Rattle.matrix.specs.Fold.{fold, sum}
use Rattle.matrix.specs.Matrix.{bit}
use Rattle.matrix.proofs.Fold.{fold_ext}

-- the bits above the lowest are those of the half
bit_suc : (x c : ℕ) → bit x (suc c) ≡ bit (x / 2) c
bit_suc x c = ap (λ (y : ℕ). y % 2) (ap (λ (k : ℕ). x / 2 ^ k) (sym (one-add c)) ∙ sym (shr-shr x 1 c))

-- numbers with the same bits are equal
pub bits_ext : (a b : ℕ) → ((c : ℕ) → bit a c ≡ bit b c) → a ≡ b
bits_ext a b = go (a + b) a b (omega arith) (omega arith)
  where
    go : (n a b : ℕ) → a ≤ n → b ≤ n → ((c : ℕ) → bit a c ≡ bit b c) → a ≡ b
    go zero a b ha hb h = omega arith
    go (suc n) a b ha hb h =
        let halves = go n (a / 2) (b / 2) (half_le ha) (half_le hb) (λ c. sym (bit_suc a c) ∙ h (suc c) ∙ bit_suc b c) in
        omega (arith, h 0)

-- two operations that agree on bits
on_bits : (f g : ℕ → ℕ → ℕ) → f 0 0 ≡ g 0 0 → f 0 1 ≡ g 0 1 → f 1 0 ≡ g 1 0 → f 1 1 ≡ g 1 1
    → (x y : ℕ) → x < 2 → y < 2 → f x y ≡ g x y
on_bits f g p q r s zero zero hx hy = p
on_bits f g p q r s zero (suc zero) hx hy = q
on_bits f g p q r s zero (suc (suc y)) hx hy = absurd (omega arith)
on_bits f g p q r s (suc zero) zero hx hy = r
on_bits f g p q r s (suc zero) (suc zero) hx hy = s
on_bits f g p q r s (suc zero) (suc (suc y)) hx hy = absurd (omega arith)
on_bits f g p q r s (suc (suc x)) y hx hy = absurd (omega arith)

pub bit_and_lem : (a b c : ℕ) → bit (bit_and a b) c ≡ bit a c * bit b c
bit_and_lem a b c =
    ap (λ (x : ℕ). x % 2) (and_shr a b c) ∙ and_mod (a / 2 ^ c) (b / 2 ^ c) 1
    ∙ on_bits bit_and ◌*◌ refl refl refl refl (bit a c) (bit b c) (omega arith) (omega arith)

pub xor_parity : (x y : ℕ) → x < 2 → y < 2 → bit_xor x y ≡ (x + y) % 2
xor_parity = on_bits bit_xor (λ x y. (x + y) % 2) refl refl refl refl

pub bit_xor_lem : (a b c : ℕ) → bit (bit_xor a b) c ≡ (bit a c + bit b c) % 2
bit_xor_lem a b c =
    ap (λ (x : ℕ). x % 2) (xor_shr a b c) ∙ xor_mod (a / 2 ^ c) (b / 2 ^ c) 1
    ∙ xor_parity (bit a c) (bit b c) (omega arith) (omega arith)

-- p + q = r + s gives p + r = q + s
parity_swap : (p q r s : ℕ) → (p + q) % 2 ≡ (r + s) % 2 → (p + r) % 2 ≡ (q + s) % 2
parity_swap p q r s e = omega arith

pub xor_swap : (p q r s : ℕ) → bit_xor p q ≡ bit_xor r s → bit_xor p r ≡ bit_xor q s
xor_swap p q r s e =
    bits_ext _ _
    (λ c.
    bit_xor_lem p r c
    ∙ parity_swap (bit p c) (bit q c) (bit r c) (bit s c) (sym (bit_xor_lem p q c) ∙ ap (λ (x : ℕ). bit x c) e ∙ bit_xor_lem r s c)
    ∙ sym (bit_xor_lem q s c))

pub xor_zero : (a b : ℕ) → bit_xor a b ≡ 0 → a ≡ b
xor_zero a b e = sym (xor_zero_r a) ∙ xor_swap a b 0 0 e ∙ xor_zero_r b

parity_assoc : (a b c : ℕ) → ((a + b) % 2 + c) % 2 ≡ (a + (b + c) % 2) % 2
parity_assoc a b c = omega arith

pub xor_assoc : (a b c : ℕ) → bit_xor (bit_xor a b) c ≡ bit_xor a (bit_xor b c)
xor_assoc a b c =
    bits_ext _ _
    (λ i.
    bit_xor_lem (bit_xor a b) c i
    ∙ ap (λ (x : ℕ). (x + bit c i) % 2) (bit_xor_lem a b i)
    ∙ parity_assoc (bit a i) (bit b i) (bit c i)
    ∙ ap (λ (x : ℕ). (bit a i + x) % 2) (sym (bit_xor_lem b c i))
    ∙ sym (bit_xor_lem a (bit_xor b c) i))

-- a sum, its first term apart
sum_front : (n : ℕ) (f : ℕ → ℕ) → sum (suc n) f ≡ f 0 + sum n (λ k. f (suc k))
unfolding fold
sum_front zero f = omega arith
sum_front (suc n) f = omega (arith, sum_front n f)

-- the count of a k-bit number's ones is the sum of its bits
pub ones_bits : (k x : ℕ) → x < 2 ^ k → Count.ones x ≡ sum k (λ c. bit x c)
unfolding fold Count.ones
ones_bits zero x h = ap Count.ones (lt-one h)
ones_bits (suc k) x h =
    Count.ones_step x
    ∙ ap₂ ◌+◌ (ap (λ (y : ℕ). y % 2) (sym (div-one x))) (ones_bits k (x / 2) (shr_lt k 1 (rw add-one h)) ∙ fold_ext ◌+◌ 0 k _ _ (λ c _. sym (bit_suc x c)))
    ∙ sym (sum_front k (λ c. bit x c))
