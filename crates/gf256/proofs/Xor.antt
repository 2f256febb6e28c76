-- The laws of exclusive or that make the numbers a vector space over two elements. Associativity is by induction on the binary
-- digits; the other laws are `lib.Bits`' own or follow.
-- Assumes nothing.
use mathlib.Core.Path.{◌≡◌, refl, sym, ap, ap₂, ◌∙◌}
use Prim.Native.Nat.{ℕ, zero, suc, ◌+◌, ◌*◌, ◌/◌, ◌%◌, ◌<◌}
use native.Mathlib.Nat.{mod-lt, zero-lt-suc}
use native.Mathlib.Omega.{arith}
use lib.Arith.{bin_ind, digits_mod}
use lib.Bits.{bit_xor, differ, xor_step, xor_comm, xor_self, xor_zero_l, xor_zero_r, xor_shr}

-- a digit is 0 or 1
pub data Digit : ℕ → Type 0 where
  off : Digit 0
  on : Digit 1

pub digit : (n : ℕ) → n < 2 → Digit n
digit zero h = off
digit (suc zero) h = on
digit (suc (suc n)) h = absurd (omega arith)

pub parity : (n : ℕ) → Digit (n % 2)
parity n = digit (n % 2) (mod-lt n (zero-lt-suc 1))

differ_assoc : {a b c : ℕ} → Digit a → Digit b → Digit c → differ (differ a b) c ≡ differ a (differ b c)
differ_assoc off p q = refl
differ_assoc on off q = refl
differ_assoc on on off = refl
differ_assoc on on on = refl

-- the lowest digit of a sum, and the rest
pub xor_odd : (a b : ℕ) → bit_xor a b % 2 ≡ differ (a % 2) (b % 2)
xor_odd a b = ap (λ (n : ℕ). n % 2) (xor_step a b) ∙ digits_mod (bit_xor (a / 2) (b / 2)) (differ_lt (parity a) (parity b))
  where
    differ_lt : {a b : ℕ} → Digit a → Digit b → differ a b < 2
    differ_lt off off = omega arith
    differ_lt off on = omega arith
    differ_lt on off = omega arith
    differ_lt on on = omega arith

pub xor_assoc : (a b c : ℕ) → bit_xor (bit_xor a b) c ≡ bit_xor a (bit_xor b c)
xor_assoc =
    bin_ind (λ (a : ℕ). (b c : ℕ) → bit_xor (bit_xor a b) c ≡ bit_xor a (bit_xor b c)) (λ b c. refl)
    (λ a ih b c.
    xor_step (bit_xor a b) c
    ∙ ap₂ (λ (x y : ℕ). x * 2 + y)
    (ap (λ (n : ℕ). bit_xor n (c / 2)) (xor_shr a b 1) ∙ ih (b / 2) (c / 2) ∙ sym (ap (bit_xor (a / 2)) (xor_shr b c 1)))
    (ap (λ (n : ℕ). differ n (c % 2)) (xor_odd a b)
    ∙ differ_assoc (parity a) (parity b) (parity c)
    ∙ sym (ap (differ (a % 2)) (xor_odd b c)))
    ∙ sym (xor_step a (bit_xor b c)))

xor_left_comm : (a b c : ℕ) → bit_xor a (bit_xor b c) ≡ bit_xor b (bit_xor a c)
xor_left_comm a b c = sym (xor_assoc a b c) ∙ ap (λ (n : ℕ). bit_xor n c) (xor_comm a b) ∙ xor_assoc b a c

-- the four terms of two sums, exchanged
pub xor_exchange : (a b c d : ℕ) → bit_xor (bit_xor a b) (bit_xor c d) ≡ bit_xor (bit_xor a c) (bit_xor b d)
xor_exchange a b c d = simp (xor_assoc, xor_left_comm)

-- a term on both sides cancels
pub xor_cancel : (a b : ℕ) → bit_xor a (bit_xor a b) ≡ b
xor_cancel a b = sym (xor_assoc a a b) ∙ ap (λ (n : ℕ). bit_xor n b) (xor_self a) ∙ xor_zero_l b

-- two numbers whose sum is zero are equal
pub xor_zero : (a b : ℕ) → bit_xor a b ≡ 0 → a ≡ b
xor_zero a b h = sym (xor_zero_r a) ∙ ap (bit_xor a) (sym h) ∙ xor_cancel a b
