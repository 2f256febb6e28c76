-- The verdicts on a chunk whose unclean columns agree: where P* is 00 at every place, or Q* the same multiple of P*. Where some column is
-- unclean, the summary is what they agree on.
-- Assumes nothing.
use mathlib.Core.Path.{◌≡◌, sym, ap₂, ◌∙◌}
use mathlib.Core.Logic.{◌≢◌, ◌⊎◌, inl, inr, ⊎_elim}
use mathlib.Core.Bool.{true, false, true≢false}
use mathlib.Core.List.{List}
use Prim.Native.Nat.{ℕ, ◌<◌}
use native.Mathlib.Omega.{arith}
use native.Mathlib.Decide.{ℕ_discrete}
use borrow.Author.Tests.{eq-eqb, ne_eqb}
use lib.ListN.{length, get_or}
use Rattle.base.proofs.Table.{length_tabulate, get_d_tabulate, tabulate_same}
use Rattle.gf256.specs.Field.{sum, product}
use Rattle.gf256.proofs.Laws.{sum_only_zero, product_zero}
use Rattle.column.specs.Column.{verdict_of}
use Rattle.column.proofs.Verdicts.{row_clean, row_q, clean_only}
use Rattle.chunk.specs.Chunk.{width, each, all_zero}
use Rattle.chunk.proofs.Laws.{each_at, all_zero_at, zero_all}
use Rattle.products.specs.Products.{plus_product}
use Rattle.verdict.specs.Summary.{summary, WithSummary}
use Rattle.verdict.specs.Agreement.{CleanOr}
use Rattle.verdict.specs.Verdicts.{verdict_at, verdicts_of, unclean}
use Rattle.verdict.proofs.Agreement.{summary_clean_or, summary_clean}

module _ (n : ℕ) (p q : List ℕ) where
  abbrev vs : List ℕ
  vs = verdicts_of n p q width

  at_place : (j : ℕ) → j < width → get_or vs j 0 ≡ verdict_at n p q j
  at_place j h = get_d_tabulate width (verdict_at n p q) j 0 h

  within : {j : ℕ} → j < width → j < length vs
  within h = omega (arith, length_tabulate width (verdict_at n p q))

  by_place : {v : ℕ} → ((j : ℕ) → j < width → (verdict_at n p q j ≡ 0) ⊎ (verdict_at n p q j ≡ v)) → CleanOr v vs
  by_place each j h = let l : j < width = omega (arith, length_tabulate width (verdict_at n p q)) in rw (at_place j l) (each j l)

  common_clean : all_zero p p ≡ true → all_zero q q ≡ true → CleanOr 0 vs
  common_clean ps qs =
      by_place (λ j h. inl (ap₂ (verdict_of n) (all_zero_at p p ps j h).0 (all_zero_at q q qs j h).0 ∙ row_clean n))

  common_q : all_zero p p ≡ true → CleanOr 2 vs
  common_q zeros = by_place (λ j h. rw (all_zero_at p p zeros j h).0 (go (get_or q j 0) (ℕ_discrete (get_or q j 0) 0)))
    where
      go : (y : ℕ) → Dec (y ≡ 0) → (verdict_of n 0 y ≡ 0) ⊎ (verdict_of n 0 y ≡ 2)
      go y (yes e) = inl (rw e (row_clean n))
      go y (no h) = inr (row_q n y h)

  common_multiple : (c v : ℕ) → ((j : ℕ) → get_or p j 0 < 256) → all_zero (plus_product q c p) (plus_product q c p) ≡ true
      → ((x : ℕ) → x ≢ 0 → x < 256 → verdict_of n x (product c x) ≡ v)
      → CleanOr v vs
  common_multiple c v bytes zeros told =
      by_place
      (λ j h.
      let multiple : get_or q j 0 ≡ product c (get_or p j 0) =
      sum_only_zero _ _ (sym (each_at (λ i. sum (get_or q i 0) (product c (get_or p i 0))) j h) ∙ (all_zero_at _ _ zeros j h).0) in
      rw multiple (go (get_or p j 0) (bytes j) (ℕ_discrete (get_or p j 0) 0)))
    where
      go : (x : ℕ) → x < 256 → Dec (x ≡ 0) → (verdict_of n x (product c x) ≡ 0) ⊎ (verdict_of n x (product c x) ≡ v)
      go x h (yes e) = inl (rw (e, product_zero c) (row_clean n))
      go x h (no other) = inr (told x other h)

  module _ {v : ℕ} (common : CleanOr v vs) where
    at_unclean : (j : ℕ) → j < width → verdict_at n p q j ≡ unclean v p q j
    at_unclean j h = go (ℕ_discrete (get_or p j 0) 0) (ℕ_discrete (get_or q j 0) 0)
      where
        other : verdict_at n p q j ≢ 0 → verdict_at n p q j ≡ v
        other ne =
            ⊎_elim (λ e. absurd (ne (sym (at_place j h) ∙ e))) (λ e. sym (at_place j h) ∙ e) (common j (within h))

        go : Dec (get_or p j 0 ≡ 0) → Dec (get_or q j 0 ≡ 0) → verdict_at n p q j ≡ unclean v p q j
        go (yes a) (yes b) = rw (a, b) (row_clean n)
        go (no a) (yes b) = rw (eq-eqb _ 0 b, ne_eqb _ 0 a) (other (λ e. a (clean_only n _ _ e).0))
        go d (no b) = rw (ne_eqb _ 0 b) (other (λ e. b (clean_only n _ _ e).1))

    told : summary vs ≡ v → WithSummary vs v (each (unclean v p q))
    told e = record { result = sym e; room = sym (tabulate_same width at_unclean) }

    -- some column is unclean
    told_unclean : (((j : ℕ) → j < width → (get_or p j 0 ≡ 0) × (get_or q j 0 ≡ 0)) → ⊥) → WithSummary vs v (each (unclean v p q))
    told_unclean some =
        told
        (⊎_elim (λ z. absurd (some (λ j h. clean_only n _ _ (sym (at_place j h) ∙ (summary_clean vs).0 z j (within h))))) (λ e. e)
        (summary_clean_or v vs common))

  pub told_clean : all_zero p p ≡ true → all_zero q q ≡ true → WithSummary vs 0 (each (unclean 0 p q))
  told_clean ps qs = let clean = common_clean ps qs in told clean (⊎_elim (λ e. e) (λ e. e) (summary_clean_or 0 vs clean))

  pub told_q : all_zero p p ≡ true → all_zero q q ≡ false → WithSummary vs 2 (each (unclean 2 p q))
  told_q ps some =
      told_unclean (common_q ps) (λ z. true≢false (sym (zero_all q q (λ j h. ((z j h).1, (z j h).1))) ∙ some))

  pub told_multiple : (c : ℕ) {v : ℕ} → ((j : ℕ) → get_or p j 0 < 256) → all_zero p p ≡ false → all_zero (plus_product q c p) (plus_product q c p) ≡ true
      → ((x : ℕ) → x ≢ 0 → x < 256 → verdict_of n x (product c x) ≡ v)
      → WithSummary vs v (each (unclean v p q))
  told_multiple c {v} bytes some zeros row =
      told_unclean (common_multiple c v bytes zeros row) (λ z. true≢false (sym (zero_all p p (λ j h. ((z j h).0, (z j h).0))) ∙ some))
