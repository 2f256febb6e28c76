-- The laws of sums over the data disks.
-- Assumes nothing.
use mathlib.Core.Path.{◌≡◌, refl, sym, ap, ap₂, ◌∙◌}
use mathlib.Core.Logic.{◌≢◌}
use Prim.Native.Nat.{ℕ, zero, suc, ◌^◌, ◌<◌}
use native.Mathlib.Nat.{not-suc-le-zero}
use native.Mathlib.Omega.{arith}
use native.Mathlib.Decide.{ℕ_discrete}
use lib.Pow.{pow_pos}
use Rattle.gf256.specs.Field.{sum}
use Rattle.gf256.proofs.Laws.{sum_comm, sum_assoc, zero_sum, sum_zero, sum_exchange, xor_lt}
use Rattle.column.specs.Column.{total}

-- sums of the same terms
pub total_same : (n : ℕ) {f g : ℕ → ℕ} → ((k : ℕ) → k < n → f k ≡ g k) → total n f ≡ total n g
unfolding total
total_same zero h = refl
total_same (suc n) h = ap₂ sum (total_same n (λ k p. h k (omega arith))) (h n (omega arith))

-- the sum of sums
pub total_sum : (n : ℕ) (f g : ℕ → ℕ) → total n (λ k. sum (f k) (g k)) ≡ sum (total n f) (total n g)
unfolding total
total_sum zero f g = refl
total_sum (suc n) f g = ap (λ (x : ℕ). sum x (sum (f n) (g n))) (total_sum n f g) ∙ sum_exchange (total n f) (total n g) (f n) (g n)

pub total_zero : (n : ℕ) → total n (λ k. 0) ≡ 0
unfolding total
total_zero zero = refl
total_zero (suc n) = ap (λ (x : ℕ). sum x 0) (total_zero n)

-- a map that respects the sum goes through it
pub total_map : (n : ℕ) (m f : ℕ → ℕ) → m 0 ≡ 0 → ((x y : ℕ) → m (sum x y) ≡ sum (m x) (m y)) → m (total n f) ≡ total n (λ k. m (f k))
unfolding total
total_map zero m f zero_to_zero add = zero_to_zero
total_map (suc n) m f zero_to_zero add = add (total n f) (f n) ∙ ap (λ (x : ℕ). sum x (m (f n))) (total_map n m f zero_to_zero add)

-- the first term apart
pub total_front : (n : ℕ) (f : ℕ → ℕ) → total (suc n) f ≡ sum (total n (λ k. f (suc k))) (f 0)
unfolding total
total_front zero f = refl
total_front (suc n) f =
    ap (λ (x : ℕ). sum x (f (suc n))) (total_front n f)
    ∙ sum_assoc (total n (λ k. f (suc k))) (f 0) (f (suc n))
    ∙ ap (sum (total n (λ k. f (suc k)))) (sum_comm (f 0) (f (suc n)))
    ∙ sym (sum_assoc (total n (λ k. f (suc k))) (f (suc n)) (f 0))

-- every term is zero, or every term but one
pub total_none : (n : ℕ) (f : ℕ → ℕ) → ((k : ℕ) → k < n → f k ≡ 0) → total n f ≡ 0
total_none n f none = total_same n none ∙ total_zero n

pub total_only : (n : ℕ) (f : ℕ → ℕ) (x : ℕ) → x < n → ((k : ℕ) → k < n → k ≢ x → f k ≡ 0) → total n f ≡ f x
unfolding total
total_only zero f x h others = absurd (not-suc-le-zero h)
total_only (suc n) f x h others = go (λ p. total_only n f x p (λ k q. others k (omega arith))) (ℕ_discrete x n)
  where
    go : (x < n → total n f ≡ f x) → Dec (x ≡ n) → sum (total n f) (f n) ≡ f x
    go earlier (yes e) =
        ap (λ (t : ℕ). sum t (f n)) (total_none n f (λ k p. others k (omega arith) (omega arith))) ∙ zero_sum (f n) ∙ ap f (sym e)
    go earlier (no e) = ap₂ sum (earlier (omega arith)) (others n (omega arith) (omega arith)) ∙ sum_zero (f x)

-- every term has at most w bits
pub total_lt : (n w : ℕ) (f : ℕ → ℕ) → ((k : ℕ) → k < n → f k < 2 ^ w) → total n f < 2 ^ w
unfolding total
total_lt zero w f h = pow_pos w
total_lt (suc n) w f h = xor_lt w (total n f) (f n) (total_lt n w f (λ k p. h k (omega arith))) (h n (omega arith))
