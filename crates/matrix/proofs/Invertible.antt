-- The test `invertible` says what its words say: only the zero vector maps to zero.
-- Assumes nothing.
use mathlib.Core.Path.{◌≡◌, refl, sym, ap, ◌∙◌}
use mathlib.Core.Bool.{Bool, true, false, not, ◌&&◌, ◌||◌, false≢true}
use Prim.Native.Nat.{ℕ, zero, suc, ◌+◌, ◌<◌}
use native.Mathlib.Omega.{arith}
use borrow.Author.Tests.{eqb-true, eqb-false, eq-eqb, ne_eqb}
use lib.Dec.{eqb}
use Rattle.std.specs.List.{list_any, range_with_len}
use Rattle.std.proofs.lemmas.List.Folds.{Any-from_list_any, list_any_at}
use Rattle.std.proofs.lemmas.List.FromFn.{get_or-range_with_len}
use Rattle.matrix.specs.Matrix.{Matrix, apply, only_zero_at, invertible, singular, Invertible}
use Rattle.matrix.proofs.Fold.{fold_none, none_fold}

pub and_true : (a b : Bool) → (a && b) ≡ true → (a ≡ true) × (b ≡ true)
and_true true b e = (refl, e)
and_true false b e = absurd (false≢true e)

or_true : (a b : Bool) → (a || b) ≡ true → b ≡ false → a ≡ true
or_true true b e n = refl
or_true false b e n = sym n ∙ e

pub only_zero : (m : Matrix) → invertible m ≡ true → Invertible m
unfolding invertible
only_zero m e v l p =
    eqb-true v 0
    (or_true _ _ (none_fold ◌&&◌ true and_true 256 _ e v l) (ap not (eq-eqb (apply m v) 0 p)))

pub zero_only : (m : Matrix) → Invertible m → invertible m ≡ true
unfolding invertible
zero_only m h = fold_none ◌&&◌ true refl 256 _ (λ v l. at v l (eqb v 0) refl)
  where
    at : (v : ℕ) → v < 256 → (b : Bool) → eqb v 0 ≡ b → only_zero_at m v ≡ true
    at v l true e = ap (λ (t : Bool). t || not (eqb (apply m v) 0)) e
    at v l false e =
        ap (λ (t : Bool). t || not (eqb (apply m v) 0)) e ∙ ap not (ne_eqb (apply m v) 0 (λ p. eqb-false v 0 e (h v l p)))

-- the test of each vector but zero
pub singular_any : (m : Matrix) → list_any (λ v. eqb (apply m v) 0) (range_with_len 1 255) ≡ singular m
singular_any m = go _ _ refl refl
  where
    go : (a b : Bool) → list_any (λ v. eqb (apply m v) 0) (range_with_len 1 255) ≡ a → invertible m ≡ b → a ≡ not b
    go true true e i =
        let f = Any-from_list_any (λ v. eqb (apply m v) 0) (range_with_len 1 255) e in
        let l : f.0 < 255 = f.2 in
        let at : f.1 ≡ 1 + f.0 = sym f.3 ∙ get_or-range_with_len 1 255 f.0 f.1 l in
        let zero : f.1 ≡ 0 = only_zero m i f.1 (omega arith) (eqb-true _ _ f.4) in
        absurd (omega arith)
    go true false e i = refl
    go false true e i = refl
    go false false e i = absurd (false≢true (sym i ∙ zero_only m at))
      where
        at : (v : ℕ) → v < 256 → apply m v ≡ 0 → v ≡ 0
        at zero l p = refl
        at (suc v) l p =
            absurd (false≢true (sym e ∙ list_any_at (λ v. eqb (apply m v) 0) (range_with_len 1 255) v 0 (omega arith)
            (ap (λ (x : ℕ). eqb (apply m x) 0) (get_or-range_with_len 1 255 v 0 (omega arith)) ∙ eq-eqb _ _ (ap (apply m) (omega arith) ∙ p))))
