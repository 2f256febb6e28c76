-- What an iterator computes over the elements of a list is the fold over its places.
-- Assumes nothing.
use mathlib.Core.Path.{◌≡◌, refl, sym, ap, ◌∙◌}
use mathlib.Core.Bool.{Bool, ◌&&◌}
use mathlib.Core.List.{List}
use Prim.Native.Nat.{ℕ, zero, suc, ◌+◌, ◌≤◌}
use native.Mathlib.Numerals.{add-one}
use native.Mathlib.Omega.{arith}
use lib.ListN.{length, get_or, take}
use Rattle.std.specs.List.{sum_by, list_all}
use Rattle.std.proofs.lemmas.List.{take_all}
use Rattle.std.proofs.lemmas.List.Folds.{list_all_more}
use Rattle.std.proofs.lemmas.List.Sums.{sum_by_more}
use Rattle.matrix.specs.Fold.{fold, sum, all}

module _ {X : Type 0} (xs : List X) (d : X) where
  sum_below : (f : X → ℕ) (n : ℕ) → n ≤ length xs → sum_by f (take n xs) ≡ sum n (λ k. f (get_or xs k d))
  unfolding fold
  sum_below f zero l = refl
  sum_below f (suc n) l =
      ap (λ (m : ℕ). sum_by f (take m xs)) (sym (add-one n))
      ∙ sum_by_more f xs n d (omega arith)
      ∙ ap (λ (s : ℕ). s + f (get_or xs n d)) (sum_below f n (omega arith))

  pub sum_elements : (f : X → ℕ) → sum_by f xs ≡ sum (length xs) (λ k. f (get_or xs k d))
  sum_elements f = ap (sum_by f) (sym (take_all (length xs) xs (omega arith))) ∙ sum_below f (length xs) (omega arith)

  all_below : (p : X → Bool) (n : ℕ) → n ≤ length xs → list_all p (take n xs) ≡ all n (λ k. p (get_or xs k d))
  unfolding fold
  all_below p zero l = refl
  all_below p (suc n) l =
      ap (λ (m : ℕ). list_all p (take m xs)) (sym (add-one n))
      ∙ list_all_more p xs n d (omega arith)
      ∙ ap (λ (b : Bool). b && p (get_or xs n d)) (all_below p n (omega arith))

  pub all_elements : (p : X → Bool) → list_all p xs ≡ all (length xs) (λ k. p (get_or xs k d))
  all_elements p = ap (list_all p) (sym (take_all (length xs) xs (omega arith))) ∙ all_below p (length xs) (omega arith)
