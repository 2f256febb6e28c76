-- Sums over the data disks in which disk k's symbol enters by a map t k that respects the sum: the right sides of equations 1 and 2.
-- Assumes nothing.
use mathlib.Core.Path.{◌≡◌, sym, ap, ap₂, ◌∙◌}
use mathlib.Core.Logic.{◌≢◌}
use Prim.Native.Nat.{ℕ, ◌≤◌, ◌<◌}
use native.Mathlib.Omega.{arith}
use Rattle.gf256.specs.Field.{sum}
use Rattle.gf256.proofs.Laws.{sum_assoc, sum_self, sum_cancel, zero_sum, sum_zero}
use Rattle.column.specs.Column.{Column, put, total}
use Rattle.column.proofs.Put.{put_same, put_other, put_back, by_role}
use Rattle.column.proofs.Total.{total_same, total_sum, total_none, total_only}

abbrev pub Additive : (ℕ → ℕ → ℕ) → Type 0
Additive t = (k x y : ℕ) → t k (sum x y) ≡ sum (t k x) (t k y)

abbrev pub weighted : (ℕ → ℕ → ℕ) → ℕ → Column → ℕ
weighted t n c = total n (λ k. t k (c k))

-- a column that is v at x and 00 elsewhere
abbrev pub only : ℕ → ℕ → Column
only x v = put x v (λ r. 0)

pub put_split : (x v : ℕ) (c : Column) → put x v c ≡ (λ r. sum (put x 0 c r) (only x v r))
put_split x v c =
    by_role x (put_same x v c ∙ sym (ap₂ sum (put_same x 0 c) (put_same x v (λ r. 0)) ∙ zero_sum v))
    (λ r h. put_other x v c r h ∙ sym (ap₂ sum (put_other x 0 c r h) (put_other x v (λ r. 0) r h) ∙ sum_zero (c r)))

module _ (t : ℕ → ℕ → ℕ) (add : Additive t) (n : ℕ) where
  pub weight_zero : (k : ℕ) → t k 0 ≡ 0
  weight_zero k = ap (t k) (sym (sum_self 0)) ∙ add k 0 0 ∙ sum_self (t k 0)

  pub weighted_sum : (c e : Column) → weighted t n (λ r. sum (c r) (e r)) ≡ sum (weighted t n c) (weighted t n e)
  weighted_sum c e = total_same n (λ k p. add k (c k) (e k)) ∙ total_sum n (λ k. t k (c k)) (λ k. t k (e k))

  -- columns that are 00 on every data disk, or on every one but x
  pub weighted_none : (c : Column) → ((k : ℕ) → k < n → c k ≡ 0) → weighted t n c ≡ 0
  weighted_none c none = total_none n (λ k. t k (c k)) (λ k p. ap (t k) (none k p) ∙ weight_zero k)

  pub weighted_only : (c : Column) (x : ℕ) → x < n → ((k : ℕ) → k < n → k ≢ x → c k ≡ 0) → weighted t n c ≡ t x (c x)
  weighted_only c x h others = total_only n (λ k. t k (c k)) x h (λ k p q. ap (t k) (others k p q) ∙ weight_zero k)

  -- one symbol replaced, on a data disk and elsewhere
  pub weighted_put : (c : Column) (x v : ℕ) → x < n → weighted t n (put x v c) ≡ sum (weighted t n (put x 0 c)) (t x v)
  weighted_put c x v h =
      ap (weighted t n) (put_split x v c)
      ∙ weighted_sum (put x 0 c) (only x v)
      ∙ ap (sum (weighted t n (put x 0 c)))
      (weighted_only (only x v) x h (λ k p q. put_other x v (λ r. 0) k q) ∙ ap (t x) (put_same x v (λ r. 0)))

  -- what a changed symbol adds
  pub weighted_change : (c : Column) (x v : ℕ) → x < n → weighted t n (put x v c) ≡ sum (weighted t n c) (t x (sum (c x) v))
  weighted_change c x v h =
      weighted_put c x v h
      ∙ ap (sum rest) (sym (sum_cancel (t x (c x)) (t x v)))
      ∙ sym (sum_assoc rest (t x (c x)) (sum (t x (c x)) (t x v)))
      ∙ ap₂ sum (sym (weighted_put c x (c x) h) ∙ ap (weighted t n) (put_back x c)) (sym (add x (c x) v))
    where
      rest : ℕ
      rest = weighted t n (put x 0 c)

  pub weighted_outside : (c : Column) (d v : ℕ) → n ≤ d → weighted t n (put d v c) ≡ weighted t n c
  weighted_outside c d v h = total_same n (λ k p. ap (t k) (put_other d v c k (omega arith)))
