-- What an invertible matrix makes of a word determines it: the difference of two words that it maps alike is a vector that it sends to zero.
-- So it maps the words one-to-one, and reaches each.
-- Assumes nothing.
use mathlib.Core.Path.{◌≡◌, sym, ap, ap₂, ◌∙◌}
use Prim.Native.Nat.{ℕ, ◌<◌}
use lib.Bits.{bit_xor, xor_lt, xor_self}
use Rattle.matrix.specs.Matrix.{Matrix, apply, add, Invertible}
use Rattle.matrix.proofs.Bits.{xor_swap, xor_zero}
use Rattle.matrix.proofs.Linear.{apply_lt, apply_add, apply_sum}
use Rattle.matrix.proofs.Onto.{Takes, onto}

-- M a determines a
pub one_word : (m : Matrix) → Invertible m → (a a' : ℕ) → a < 256 → a' < 256 → apply m a ≡ apply m a' → a ≡ a'
one_word m h a a' la la' e =
    xor_zero a a'
    (h (bit_xor a a') (xor_lt 8 a a' la la')
    (apply_sum m a a' ∙ ap (λ (x : ℕ). bit_xor x (apply m a')) e ∙ xor_self (apply m a')))

-- a + b and M a + N b determine a and b
pub two_words : (m n : Matrix) → Invertible (add m n) → (a b a' b' : ℕ) → a < 256 → b < 256 → a' < 256 → b' < 256
    → bit_xor a b ≡ bit_xor a' b' → bit_xor (apply m a) (apply n b) ≡ bit_xor (apply m a') (apply n b') → (a ≡ a') × (b ≡ b')
two_words m n h a b a' b' la lb la' lb' p q = (xor_zero a a' zero, xor_zero b b' (sym same ∙ zero))
  where
    same : bit_xor a a' ≡ bit_xor b b'
    same = xor_swap a b a' b' p

    zero : bit_xor a a' ≡ 0
    zero =
        h (bit_xor a a') (xor_lt 8 a a' la la')
        (apply_add m n (bit_xor a a')
        ∙ ap₂ bit_xor (apply_sum m a a' ∙ xor_swap (apply m a) (apply n b) (apply m a') (apply n b') q) (ap (apply n) same ∙ apply_sum n b b')
        ∙ xor_self (bit_xor (apply n b) (apply n b')))

pub reaches : (m : Matrix) → Invertible m → (q : ℕ) → q < 256 → Takes (apply m) 256 q
reaches m h = onto 256 (apply m) record { below = λ v l. apply_lt m v; apart = λ a b la lb. one_word m h a b la lb }
