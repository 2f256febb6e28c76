-- Laws of a fold over the places below n, each stated once for sums, "all of" and "the first of", by induction on n.
-- Assumes nothing.
use mathlib.Core.Path.{◌≡◌, refl, ap, ap₂, ◌∙◌}
use mathlib.Core.Bool.{Bool, ◌&&◌}
use mathlib.Core.Logic.{⊎_elim}
use Prim.Native.Nat.{ℕ, zero, suc, ◌+◌, ◌*◌, ◌≤◌, ◌<◌, zero-le}
use native.Mathlib.Decide.{le_ind}
use native.Mathlib.Nat.{not-suc-le-zero, eq-or-lt_of_le, le_of_suc-le-suc, suc-mul, add-le-add}
use native.Mathlib.Numerals.{add-one}
use native.Mathlib.Omega.{arith}
use lib.Dec.{eqb}
use Rattle.std.proofs.lemmas.Bool.Decides.{nat_tests}
use Rattle.matrix.specs.Fold.{fold, sum, all}

module _ {A : Type 0} (op : A → A → A) (e : A) where
  -- one place more, as a loop counts
  pub fold_more : (n : ℕ) (f : ℕ → A) → fold op e (n + 1) f ≡ op (fold op e n f) (f n)
  unfolding fold
  fold_more n f = rw add-one

  -- what f is at n and above does not matter
  pub fold_ext : (n : ℕ) (f g : ℕ → A) → ((k : ℕ) → k < n → f k ≡ g k) → fold op e n f ≡ fold op e n g
  unfolding fold
  fold_ext zero f g h = refl
  fold_ext (suc n) f g h = ap₂ op (fold_ext n f g (λ k l. h k (omega arith))) (h n (omega arith))

  -- a value that hides all that comes after it is the fold's from the place where it is met
  pub fold_met : {x : A} → ((y : A) → op x y ≡ x) → (n k : ℕ) (f : ℕ → A) → k < n → op (fold op e k f) (f k) ≡ x → fold op e n f ≡ x
  unfolding fold
  fold_met {x} hides n k f l p = le_ind (λ (m : ℕ). fold op e m f ≡ x) p (λ m _ q. ap (λ (z : A). op z (f m)) q ∙ hides (f m)) n l

  -- the fold is e where f is e at each place, and only there if op gives e at no other two values than e and e
  pub fold_none : op e e ≡ e → (n : ℕ) (f : ℕ → A) → ((k : ℕ) → k < n → f k ≡ e) → fold op e n f ≡ e
  unfolding fold
  fold_none u zero f h = refl
  fold_none u (suc n) f h = ap₂ op (fold_none u n f (λ k l. h k (omega arith))) (h n (omega arith)) ∙ u

  pub none_fold : ((x y : A) → op x y ≡ e → (x ≡ e) × (y ≡ e)) → (n : ℕ) (f : ℕ → A) → fold op e n f ≡ e → (k : ℕ) → k < n → f k ≡ e
  unfolding fold
  none_fold h zero f p k l = absurd (not-suc-le-zero l)
  none_fold h (suc n) f p k l =
      ⊎_elim (λ q. ap f q ∙ (h _ _ p).1) (λ b. none_fold h n f (h _ _ p).0 k b) (eq-or-lt_of_le (le_of_suc-le-suc l))

-- a sum is zero where each of its terms is
pub zero_terms : (n : ℕ) (f : ℕ → ℕ) → eqb (sum n f) 0 ≡ all n (λ k. eqb (f k) 0)
unfolding fold
zero_terms zero f = refl
zero_terms (suc n) f = both (sum n f) (f n) ∙ ap (λ (b : Bool). b && eqb (f n) 0) (zero_terms n f)
  where
    both : (a b : ℕ) → eqb (a + b) 0 ≡ (eqb a 0 && eqb b 0)
    both a b = grind (arith, nat_tests)

-- a sum of n terms of at most b
pub sum_le : (b n : ℕ) (f : ℕ → ℕ) → ((k : ℕ) → f k ≤ b) → sum n f ≤ n * b
unfolding fold
sum_le b zero f h = zero-le
sum_le b (suc n) f h = rw suc-mul (add-le-add (sum_le b n f h) (h n))
