-- A column without two roles: 00 at these, and what it was at every other. So the sums of such a column are those of the plan, where none is
-- lost or both parities are; and what is solved from them is the plan's.
-- Assumes nothing.
use mathlib.Core.Path.{◌≡◌, refl, sym, ap, ap₂, ◌∙◌}
use mathlib.Core.Logic.{◌≢◌, ◌⊎◌, inl, inr}
use mathlib.Core.Bool.{Bool, true, false, true≢false}
use Prim.Native.Nat.{ℕ, ◌+◌, ◌≤◌}
use native.Mathlib.Omega.{arith}
use borrow.Author.Tests.{eq-eqb}
use lib.Dec.{eqb}
use Rattle.base.specs.Choice.{choose, either}
use Rattle.gf256.specs.Field.{element, sum, product}
use Rattle.gf256.proofs.Laws.{zero_sum}
use Rattle.column.specs.Column.{Column, put, parity_p, parity_q, syndrome_p, syndrome_q, reed_solomon}
use Rattle.column.proofs.Put.{put_other}
use Rattle.column.proofs.Total.{total_same}
use Rattle.losses.specs.declared.Rule.{Rule}
use Rattle.losses.specs.declared.Rule.TheVariants.{Mixed, Carried}
use Rattle.losses.specs.Losses.{is_one_of, solution, without, solved}

module _ (x y : ℕ) (c : Column) where
  pub without_other : (r : ℕ) → r ≢ x → r ≢ y → without x y c r ≡ c r
  without_other r not_x not_y = put_other x 0 (put y 0 c) r not_x ∙ put_other y 0 c r not_y

  pub without_lost : (r : ℕ) → (r ≡ x) ⊎ (r ≡ y) → without x y c r ≡ 0
  without_lost r (inl p) = rw (eq-eqb r x p)
  without_lost r (inr p) = rw (eq-eqb r y p) (either_way (eqb r x))
    where
      either_way : (b : Bool) → ◌≡◌ {A = ℕ} (choose b 0 0) 0
      either_way true = refl
      either_way false = refl

  pub lost_zero : (r : ℕ) → is_one_of (record { x = x; y = y }) r ≡ true → without x y c r ≡ 0
  lost_zero r = go (eqb r x) (eqb r y)
    where
      go : (a b : Bool) → either a b ≡ true → choose a 0 (choose b 0 (c r)) ≡ 0
      go true b e = refl
      go false true e = refl
      go false false e = absurd (true≢false (sym e))

  -- the sums over the data where no data disk is lost
  module _ (n : ℕ) (hx : n ≤ x) (hy : n ≤ y) where
    kept_p : parity_p n (without x y c) ≡ parity_p n c
    kept_p = total_same n (λ k h. without_other k (omega arith) (omega arith))

    kept_q : parity_q reed_solomon n (without x y c) ≡ parity_q reed_solomon n c
    kept_q = total_same n (λ k h. ap (reed_solomon.act k) (without_other k (omega arith) (omega arith)))

module _ (n : ℕ) (c : Column) where
  pub none_lost : (syndrome_p n (without (n + 2) (n + 2) c) ≡ syndrome_p n c) × (syndrome_q reed_solomon n (without (n + 2) (n + 2) c) ≡ syndrome_q reed_solomon n c)
  none_lost = (
    ap₂ sum (without_other (n + 2) (n + 2) c n (omega arith) (omega arith)) (kept_p (n + 2) (n + 2) c n (omega arith) (omega arith)),
    ap₂ sum (without_other (n + 2) (n + 2) c (n + 1) (omega arith) (omega arith)) (kept_q (n + 2) (n + 2) c n (omega arith) (omega arith)),
  )

  pub parities_lost : (syndrome_p n (without n (n + 1) c) ≡ parity_p n c) × (syndrome_q reed_solomon n (without n (n + 1) c) ≡ parity_q reed_solomon n c)
  parities_lost = (
    ap₂ sum (without_lost n (n + 1) c n (inl refl)) (kept_p n (n + 1) c n (omega arith) (omega arith)) ∙ zero_sum (parity_p n c),
    ap₂ sum (without_lost n (n + 1) c (n + 1) (inr refl)) (kept_q n (n + 1) c n (omega arith) (omega arith)) ∙ zero_sum (parity_q reed_solomon n c),
  )

-- the bytes that a rule gives, put on the lost roles
module _ (n x y : ℕ) (c : Column) where
  pub solved_as : (rule : Rule) {v w : ℕ} → v ≡ (solution rule (syndrome_p n (without x y c)) (syndrome_q reed_solomon n (without x y c))).first
      → w ≡ (solution rule (syndrome_p n (without x y c)) (syndrome_q reed_solomon n (without x y c))).second
      → put x v (put y w c) ≡ solved n x y rule c
  unfolding solved
  solved_as rule first second = ap₂ (λ (v w : ℕ). put x v (put y w c)) first second

  module _ {p q : ℕ} (is_p : p ≡ syndrome_p n (without x y c)) (is_q : q ≡ syndrome_q reed_solomon n (without x y c)) where
    pub solved_mixed : (a b : ℕ) {v w : ℕ} → v ≡ sum (product a p) (product b q) → w ≡ sum p v → put x v (put y w c) ≡ solved n x y (Mixed (element a) (element b)) c
    solved_mixed a b first second = solved_as (Mixed (element a) (element b)) (rw (is_p, is_q) at first) (rw (is_p, first, is_p, is_q) at second)

    pub solved_carried : (a : ℕ) {w : ℕ} → w ≡ sum q (product a p) → put x p (put y w c) ≡ solved n x y (Carried (element a)) c
    solved_carried a second = solved_as (Carried (element a)) is_p (rw (is_p, is_q) at second)
