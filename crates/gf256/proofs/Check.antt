-- A test that antt computes at every number below n gives its fact at each of them: the rule of a table, and of a basis.
-- Assumes nothing.
use mathlib.Core.Path.{◌≡◌, subst, sym}
use mathlib.Core.Bool.{Bool, true, false}
use mathlib.Core.Logic.{⊎_elim}
use Prim.Native.Nat.{ℕ, zero, suc, ◌<◌}
use native.Mathlib.Nat.{le_of_suc-le-suc, not-suc-le-zero, eq-or-lt_of_le}
use lib.Dec.{T, eqb, eqb→eq}

abbrev pub both : Bool → Bool → Bool
both true b = b
both false b = false

pub both_left : (a b : Bool) → T (both a b) → T a
both_left true b t = tt
both_left false b t = t

pub both_right : (a b : Bool) → T (both a b) → T b
both_right true b t = t
both_right false b t = absurd t

abbrev pub all : ℕ → (ℕ → Bool) → Bool
all zero test = true
all (suc n) test = both (test n) (all n test)

pub all_at : (n : ℕ) (test : ℕ → Bool) → T (all n test) → (k : ℕ) → k < n → T (test k)
all_at zero test t k h = absurd (not-suc-le-zero h)
all_at (suc n) test t k h =
    ⊎_elim (λ e. subst (λ (m : ℕ). T (test m)) (sym e) (both_left (test n) (all n test) t))
    (λ l. all_at n test (both_right (test n) (all n test) t) k l)
    (eq-or-lt_of_le (le_of_suc-le-suc h))

-- two functions are the same at every number below n
abbrev pub same : ℕ → (ℕ → ℕ) → (ℕ → ℕ) → Bool
same n f g = all n (λ k. eqb (f k) (g k))

pub same_at : (n : ℕ) (f g : ℕ → ℕ) → T (same n f g) → (k : ℕ) → k < n → f k ≡ g k
same_at n f g t k h = eqb→eq (f k) (g k) (all_at n (λ k. eqb (f k) (g k)) t k h)
