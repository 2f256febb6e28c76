-- The product M v respects sums of matrices and of vectors: each of its bits is a parity, and parity respects sums.
-- Assumes nothing.
use mathlib.Core.Path.{◌≡◌, refl, sym, ap, ap₂, ◌∙◌}
use Prim.Native.Nat.{ℕ, zero, suc, ◌+◌, ◌*◌, ◌%◌, ◌^◌, ◌<◌}
use native.Mathlib.Nat.{add_comm, mul_comm, pow-suc}
use native.Mathlib.Omega.{arith}
use lib.Arith.{digits_lt}
use lib.Bits.{bit_xor, xor_block}
use Rattle.matrix.specs.Fold.{fold, sum}
use Rattle.matrix.specs.Matrix.{Matrix, bit, row, component, apply, add}
use Rattle.base.proofs.Table.{get_d_tabulate}
use Rattle.matrix.proofs.Fold.{fold_ext}
use Rattle.matrix.proofs.Bits.{bit_xor_lem, xor_parity}

-- ---- one bit of the product

-- the bit that a row and a vector give
abbrev dot : ℕ → ℕ → ℕ
dot x v = sum 8 (λ c. bit x c * bit v c) % 2

-- three terms that are even together at each place have even sums together
sum_even : (n : ℕ) (f g h : ℕ → ℕ) → ((k : ℕ) → (f k + g k + h k) % 2 ≡ 0) → (sum n f + sum n g + sum n h) % 2 ≡ 0
unfolding fold
sum_even zero f g h p = refl
sum_even (suc n) f g h p = omega (arith, sum_even n f g h p, p n)

times_bit : (x y w : ℕ) → w < 2 → ((x + y) % 2 * w + x * w + y * w) % 2 ≡ 0
times_bit x y zero l = omega arith
times_bit x y (suc zero) l = omega arith
times_bit x y (suc (suc w)) l = absurd (omega arith)

dot_xor : (x y v : ℕ) → dot (bit_xor x y) v ≡ (dot x v + dot y v) % 2
dot_xor x y v =
    omega (
      arith,
      sum_even 8 (λ c. bit (bit_xor x y) c * bit v c) (λ c. bit x c * bit v c) (λ c. bit y c * bit v c)
          (λ c. rw bit_xor_lem (times_bit (bit x c) (bit y c) (bit v c) (omega arith))),
    )

dot_comm : (x v : ℕ) → dot x v ≡ dot v x
dot_comm x v = ap (λ (n : ℕ). n % 2) (fold_ext ◌+◌ 0 8 _ _ (λ c _. mul_comm (bit x c) (bit v c)))

-- ---- the whole product

-- the number with the n bits f 0, f 1, .., f (n - 1)
abbrev pack : ℕ → (ℕ → ℕ) → ℕ
pack n f = sum n (λ r. f r * 2 ^ r)

pack_more : (n : ℕ) (f : ℕ → ℕ) → pack (suc n) f ≡ f n * 2 ^ n + pack n f
unfolding fold
pack_more n f = add_comm (pack n f) (f n * 2 ^ n)

pack_lt : (n : ℕ) (f : ℕ → ℕ) → ((r : ℕ) → f r < 2) → pack n f < 2 ^ n
unfolding fold
pack_lt zero f h = omega arith
pack_lt (suc n) f h = rw (pack_more n f, pow-suc 2 n, mul_comm (2 ^ n) 2) (digits_lt (h n) (pack_lt n f h))

pack_xor : (n : ℕ) (f g : ℕ → ℕ) → ((r : ℕ) → f r < 2) → ((r : ℕ) → g r < 2)
    → pack n (λ r. (f r + g r) % 2) ≡ bit_xor (pack n f) (pack n g)
unfolding fold
pack_xor zero f g hf hg = refl
pack_xor (suc n) f g hf hg =
    pack_more n (λ r. (f r + g r) % 2)
    ∙ ap₂ (λ (x y : ℕ). x * 2 ^ n + y) (sym (xor_parity (f n) (g n) (hf n) (hg n))) (pack_xor n f g hf hg)
    ∙ sym (xor_block n (f n) (g n) (pack n f) (pack n g) (pack_lt n f hf) (pack_lt n g hg))
    ∙ ap₂ bit_xor (sym (pack_more n f)) (sym (pack_more n g))

pub apply_lt : (m : Matrix) (v : ℕ) → apply m v < 256
unfolding apply component
apply_lt m v = pack_lt 8 (component m v) (λ r. omega arith)

-- a product whose every bit is the sum of two others' is their sum
apply_xor : (m a b : Matrix) (v x y : ℕ) → ((r : ℕ) → r < 8 → component m v r ≡ (component a x r + component b y r) % 2)
    → apply m v ≡ bit_xor (apply a x) (apply b y)
unfolding apply component
apply_xor m a b v x y h =
    fold_ext ◌+◌ 0 8 _ _ (λ r l. ap (λ (n : ℕ). n * 2 ^ r) (h r l))
    ∙ pack_xor 8 (component a x) (component b y) (λ r. omega arith) (λ r. omega arith)

-- (A + B) v = A v + B v
pub apply_add : (a b : Matrix) (v : ℕ) → apply (add a b) v ≡ bit_xor (apply a v) (apply b v)
unfolding component
apply_add a b v =
    apply_xor (add a b) a b v v v
    (λ r l. ap (λ (x : ℕ). dot x v) (get_d_tabulate 8 (λ k. bit_xor (row a k) (row b k)) r 0 l) ∙ dot_xor (row a r) (row b r) v)

-- M (v + w) = M v + M w
pub apply_sum : (m : Matrix) (v w : ℕ) → apply m (bit_xor v w) ≡ bit_xor (apply m v) (apply m w)
unfolding component
apply_sum m v w =
    apply_xor m m m (bit_xor v w) v w
    (λ r _. dot_comm (row m r) (bit_xor v w) ∙ dot_xor v w (row m r) ∙ ap₂ (λ (x y : ℕ). (x + y) % 2) (dot_comm v (row m r)) (dot_comm w (row m r)))
