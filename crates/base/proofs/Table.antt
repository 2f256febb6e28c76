-- The laws of lists given by their places.
-- Assumes nothing.
use mathlib.Core.Path.{◌≡◌, refl, sym, ap, ap₂, ◌∙◌}
use mathlib.Core.List.{List, ◌∷◌, ◌++◌}
use Prim.Native.Nat.{ℕ, zero, suc, ◌+◌, ◌<◌}
use native.Mathlib.Nat.{le_of_suc-le-suc, not-suc-le-zero, zero-add, suc-add}
use native.Mathlib.Omega.{arith}
use lib.ListN.{length, get_or}
use lib.Seq.{ext_get_or}
use Rattle.base.specs.Table.{tabulate}

pub length_tabulate : (n : ℕ) (f : ℕ → ℕ) → length (tabulate n f) ≡ n
unfolding tabulate
length_tabulate zero f = refl
length_tabulate (suc n) f = ap suc (length_tabulate n (λ k. f (suc k)))

pub get_d_tabulate : (n : ℕ) (f : ℕ → ℕ) (k d : ℕ) → k < n → get_or (tabulate n f) k d ≡ f k
unfolding tabulate
get_d_tabulate zero f k d h = absurd (not-suc-le-zero h)
get_d_tabulate (suc n) f zero d h = refl
get_d_tabulate (suc n) f (suc k) d h = get_d_tabulate n (λ k. f (suc k)) k d (le_of_suc-le-suc h)

-- a list of n numbers whose places hold f
pub is_tabulate : (n : ℕ) (f : ℕ → ℕ) (t : List ℕ) → length t ≡ n → ((j : ℕ) → j < n → get_or t j 0 ≡ f j) → t ≡ tabulate n f
is_tabulate n f t len same =
    ext_get_or 0 t (tabulate n f) (len ∙ sym (length_tabulate n f)) (λ j h. let p : j < n = omega arith in same j p ∙ sym (get_d_tabulate n f j 0 p))

pub tabulate_same : (n : ℕ) {f h : ℕ → ℕ} → ((j : ℕ) → j < n → f j ≡ h j) → tabulate n f ≡ tabulate n h
unfolding tabulate
tabulate_same zero e = refl
tabulate_same (suc n) e = ap₂ ◌∷◌ (e 0 (omega arith)) (tabulate_same n (λ j p. e (suc j) (omega arith)))

pub tabulate_split : (a k : ℕ) (f : ℕ → ℕ) → tabulate (a + k) f ≡ tabulate a f ++ tabulate k (λ j. f (a + j))
unfolding tabulate
tabulate_split zero k f = rw (zero-add k) (tabulate_same k (λ j p. ap f (sym (zero-add j))))
tabulate_split (suc a) k f =
    rw (suc-add a k) (ap (◌∷◌ (f 0)) (tabulate_split a k (λ j. f (suc j)) ∙ ap (◌++◌ (tabulate a (λ j. f (suc j)))) (tabulate_same k (λ j p. ap f (sym (suc-add a j))))))
