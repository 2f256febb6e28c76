-- The sums of columns of 00, which stand for those that a stripe has not.
-- Assumes nothing.
use mathlib.Core.Path.{◌≡◌, refl, ap, ap₂, ◌∙◌}
use mathlib.Core.Bool.{false}
use mathlib.Core.List.{List}
use Prim.Native.Nat.{ℕ, ◌+◌}
use lib.ListN.{length, replicate}
use Rattle.gf256.specs.Field.{sum, power}
use Rattle.gf256.proofs.Laws.{product_zero, sum_zero}
use Rattle.chunk.specs.Chunk.{width, each}
use Rattle.column.specs.Column.{Column, parity_p, parity_q, syndrome_p, syndrome_q, reed_solomon, put, total}
use Rattle.column.proofs.Put.{put_back}
use Rattle.column.proofs.Total.{total_zero, total_none}
use Rattle.losses.specs.Losses.{without, by_p}
use Rattle.shape.specs.declared.Geometry.{Geometry}
use Rattle.stretch.specs.Stretch.{has_columns, column_of}
use Rattle.stretch.proofs.Laws.{unseen}
use Rattle.sums.specs.Sums.{parities_of, sums_of}
use Rattle.sums.proofs.Horner.{two}

abbrev zero : Column
zero r = 0

parity_q_zero : (n : ℕ) → parity_q reed_solomon n zero ≡ 0
unfolding reed_solomon
parity_q_zero n = total_none n _ (λ k h. product_zero (power 2 k))

without_zero : (x y : ℕ) → without x y zero ≡ zero
without_zero x y = ap (put x 0) (put_back y zero) ∙ put_back x zero

module _ (g : Geometry) (s : List ℕ) (i w : ℕ) (none : has_columns g (length s) i w ≡ false) (n : ℕ) where
  pub no_parities : two (replicate width 0) (replicate width 0) ≡ parities_of n (column_of g s i w)
  no_parities = ap₂ two (unseen g s i w none (parity_p n) (total_zero n)) (unseen g s i w none (parity_q reed_solomon n) (parity_q_zero n))

  -- of columns of 00 that a rule leaves so
  sums_none : (h : Column → Column) → h zero ≡ zero → two (replicate width 0) (replicate width 0) ≡ sums_of n (λ j. h (column_of g s i w j))
  sums_none h same =
      ap₂ two (unseen g s i w none (λ c. syndrome_p n (h c)) (ap (syndrome_p n) same ∙ ap (sum 0) (total_zero n) ∙ sum_zero 0))
      (unseen g s i w none (λ c. syndrome_q reed_solomon n (h c)) (ap (syndrome_q reed_solomon n) same ∙ ap (sum 0) (parity_q_zero n) ∙ sum_zero 0))

  pub no_syndromes : two (replicate width 0) (replicate width 0) ≡ sums_of n (column_of g s i w)
  no_syndromes = sums_none (λ c. c) refl

  module _ (x : ℕ) where
    pub no_sums : (y : ℕ) → two (replicate width 0) (replicate width 0) ≡ sums_of n (λ j. without x y (column_of g s i w j))
    no_sums y = sums_none (without x y) (without_zero x y)

    pub no_sum : replicate width 0 ≡ each (λ j. by_p n x (column_of g s i w j))
    no_sum = unseen g s i w none (by_p n x) (ap (total (n + 1)) (put_back x zero) ∙ total_zero (n + 1))
