-- What the plan of a loss makes of a column is the rebuilt column: each row of the table is computed for one order of the two devices, and
-- the other order names the same roles with the same bytes.
-- Assumes nothing.
use mathlib.Core.Path.{◌≡◌, refl, sym, ap, ◌∙◌}
use mathlib.Core.Logic.{◌≢◌}
use mathlib.Core.Bool.{Bool, true, false}
use Prim.Native.Nat.{ℕ, ◌+◌, ◌≤◌, ◌<◌}
use native.Mathlib.Nat.{suc-ne-zero}
use native.Mathlib.Numerals.{add-one}
use native.Mathlib.Omega.{arith}
use borrow.Author.Tests.{eq-eqb, ne_eqb, eqb-true, eqb-false}
use lib.Dec.{eqb}
use Rattle.base.specs.Choice.{choose}
use Rattle.gf256.specs.Field.{sum, power}
use Rattle.gf256.proofs.Laws.{sum_comm, sum_zero, zero_product, product_right}
use Rattle.std.specs.Prelude.{Result, Ok, Err}
use Rattle.column.specs.declared.Device.{Device}
use Rattle.column.specs.declared.Device.TheVariants.{Data, P, Q}
use Rattle.column.specs.declared.Lost.{Lost}
use Rattle.column.specs.declared.Lost.TheVariants.{One, Two}
use Rattle.column.specs.Column.{Column, put, total, parity_p, from_p, from_q, exchanged, role_of, new_bytes, rebuild_column, reed_solomon}
use Rattle.column.specs.Loss.{KnownLoss}
use Rattle.column.proofs.Put.{put_comm}
use Rattle.column.proofs.Weighted.{Additive, weighted, weighted_put, weighted_outside}
use Rattle.shape.specs.declared.Geometry.{Geometry}
use Rattle.devices.specs.Refusals.{rebuild_refusal}
use Rattle.losses.specs.declared.Plan.{Plan}
use Rattle.losses.specs.Losses.{without, by_p, solved, restored_by, KnownPlan}
use Rattle.plans.specs.Plans.{plan_of, asked_of, with_data}

module _ (n : ℕ) (c : Column) where
  -- equation 1
  by_p_lem : (x : ℕ) → by_p n x c ≡ sum (parity_p n (put x 0 c)) (put x 0 c n)
  unfolding total
  by_p_lem x = rw add-one

  -- a lost parity is no part of the sums over the data
  data_alone : (t : ℕ → ℕ → ℕ) → Additive t → (x d : ℕ) → x < n → n ≤ d → weighted t n (without x d c) ≡ weighted t n (put x 0 c)
  data_alone t add x d hx hd = ap (weighted t n) (put_comm x d 0 0 c (omega arith)) ∙ weighted_outside t add n (put x 0 c) d 0 hd

  module _ (x : ℕ) (h : x < n) where
    data_and_p_lem : restored_by n (with_data n x P) c ≡ rebuild_column reed_solomon n (Two (Data x) P) c
    unfolding reed_solomon solved
    data_and_p_lem =
        simp (data_alone (λ k v. v) (λ k v w. refl) x n h (omega arith), data_alone reed_solomon.act (λ k. product_right (power 2 k)) x n h (omega arith), eq-eqb n n refl, ne_eqb n x (omega arith), ne_eqb (n + 1) x (omega arith), ne_eqb (n + 1) n (omega arith), zero_product, weighted_put (λ k v. v) (λ k v w. refl) n c x (from_q reed_solomon n x c) h)

    data_and_q_lem : restored_by n (with_data n x Q) c ≡ rebuild_column reed_solomon n (Two (Data x) Q) c
    unfolding reed_solomon solved
    data_and_q_lem =
        simp (data_alone (λ k v. v) (λ k v w. refl) x (n + 1) h (omega arith), data_alone reed_solomon.act (λ k. product_right (power 2 k)) x (n + 1) h (omega arith), eq-eqb (n + 1) (n + 1) refl, ne_eqb n x (omega arith), ne_eqb n (n + 1) (omega arith), ne_eqb (n + 1) x (omega arith), weighted_put reed_solomon.act (λ k. product_right (power 2 k)) n c x (from_p n x c) h)

  -- two devices in the other order
  exchange : (d e : Device) → role_of n d ≢ role_of n e → new_bytes reed_solomon n d e c ≡ exchanged (new_bytes reed_solomon n e d c)
      → rebuild_column reed_solomon n (Two e d) c ≡ rebuild_column reed_solomon n (Two d e) c
  exchange d e apart same = rw same (put_comm (role_of n e) (role_of n d) _ _ c (λ p. apart (sym p)))

pub planned : (n : ℕ) (lost : Lost) → KnownLoss n lost → (c : Column) → restored_by n (plan_of n lost) c ≡ rebuild_column reed_solomon n lost c
unfolding reed_solomon solved
planned n (One (Data x)) h c = rw (by_p_lem n c x, ne_eqb n x (omega arith), sum_comm (parity_p n (put x 0 c)) (c n))
planned n (One P) h c =
    rw (by_p_lem n c n, eq-eqb n n refl, sum_zero (parity_p n (put n 0 c)), weighted_outside (λ k v. v) (λ k v w. refl) n c n 0 (omega arith))
planned n (One Q) h c = refl
planned n (Two (Data x) (Data y)) h c =
    simp (ne_eqb n x (omega arith), ne_eqb n y (omega arith), ne_eqb (n + 1) x (omega arith), ne_eqb (n + 1) y (omega arith))
planned n (Two (Data x) P) h c = data_and_p_lem n c x h.0
planned n (Two (Data x) Q) h c = data_and_q_lem n c x h.0
planned n (Two P (Data x)) h c = data_and_p_lem n c x h.1 ∙ exchange n c P (Data x) h.2 refl
planned n (Two P P) h c = absurd (h.2 refl)
planned n (Two P Q) h c = refl
planned n (Two Q (Data x)) h c = data_and_q_lem n c x h.1 ∙ exchange n c Q (Data x) h.2 refl
planned n (Two Q P) h c = exchange n c Q P h.2 refl
planned n (Two Q Q) h c = absurd (h.2 refl)

-- the plan of a loss names roles of the stripe
pub plan_known : (n : ℕ) (lost : Lost) → KnownLoss n lost → KnownPlan n (plan_of n lost)
plan_known n (One (Data x)) h = omega arith
plan_known n (One P) h = omega arith
plan_known n (One Q) h = tt
plan_known n (Two (Data x) (Data y)) h = (omega arith, omega arith)
plan_known n (Two (Data x) P) h = (omega arith, omega arith)
plan_known n (Two (Data x) Q) h = (omega arith, omega arith)
plan_known n (Two P (Data x)) h = (omega arith, omega arith)
plan_known n (Two P P) h = omega arith
plan_known n (Two P Q) h = tt
plan_known n (Two Q (Data x)) h = (omega arith, omega arith)
plan_known n (Two Q P) h = tt
plan_known n (Two Q Q) h = tt

-- ---- what a rebuild is told
module _ (g : Geometry) (len : ℕ) (lost : Lost) where
  abbrev told : Bool → Result Plan ℕ
  told b = choose b (Ok (plan_of g.n lost)) (Err (rebuild_refusal g len lost))

  pub asked_refused : {r : ℕ} → asked_of g len lost ≡ Err r → (r ≡ rebuild_refusal g len lost) × (r ≢ 0)
  asked_refused {r} = go (eqb (rebuild_refusal g len lost) 0) refl
    where
      go : (b : Bool) → eqb (rebuild_refusal g len lost) 0 ≡ b → told b ≡ Err r → (r ≡ rebuild_refusal g len lost) × (r ≢ 0)
      go true t e = absurd (suc-ne-zero 0 cc)
      go false t e = let same : r ≡ rebuild_refusal g len lost = cc in (same, λ z. eqb-false (rebuild_refusal g len lost) 0 t (sym same ∙ z))

  pub asked_plan : {plan : Plan} → asked_of g len lost ≡ Ok plan → (rebuild_refusal g len lost ≡ 0) × (plan ≡ plan_of g.n lost)
  asked_plan {plan} = go (eqb (rebuild_refusal g len lost) 0) refl
    where
      go : (b : Bool) → eqb (rebuild_refusal g len lost) 0 ≡ b → told b ≡ Ok plan → (rebuild_refusal g len lost ≡ 0) × (plan ≡ plan_of g.n lost)
      go true t e = (eqb-true (rebuild_refusal g len lost) 0 t, cc)
      go false t e = absurd (suc-ne-zero 0 cc)
