-- The repair of a column: mending those with a verdict and rebuilding all is the same, and a column whose verdict names the mended device
-- comes out encoded.
-- Assumes nothing.
use mathlib.Core.Path.{◌≡◌, refl, sym, ap, ◌∙◌}
use mathlib.Core.Logic.{◌⊎◌, ⊎_elim}
use mathlib.Core.Bool.{Bool, true, false}
use Prim.Native.Nat.{ℕ, ◌+◌, ◌≤◌}
use native.Mathlib.Omega.{arith}
use borrow.Author.Tests.{eqb-true, eq-eqb}
use lib.Dec.{eqb}
use Rattle.base.specs.Choice.{choose}
use Rattle.gf256.specs.Field.{sum, product, power}
use Rattle.gf256.proofs.Laws.{sum_comm, sum_cancel, sum_only_zero, xor_lt}
use Rattle.column.specs.declared.Device.{Device}
use Rattle.column.specs.declared.Device.TheVariants.{Data, P, Q}
use Rattle.column.specs.declared.Lost.TheVariants.{One}
use Rattle.column.specs.Column.{Column, put, parity_p, parity_q, from_p, syndrome_p, syndrome_q, Encoded, rebuild_column, reed_solomon, verdict, right_verdict, mend_column}
use Rattle.column.specs.Loss.{Known}
use Rattle.column.specs.Lawful.{Symbols}
use Rattle.column.proofs.Put.{put_other}
use Rattle.column.proofs.Weighted.{weighted_change, weighted_outside}
use Rattle.column.proofs.ReedSolomon.{reed_solomon_lem}
use Rattle.column.proofs.Rebuild.{around, parity_p_lt, parity_q_lt, rebuild_meets, rebuild_fixed}
use Rattle.column.proofs.Verdicts.{verdict_zero, told_p, told_q, told_data}

-- a clean column is not touched, whatever device is named
pub mend_clean : (n : ℕ) (d : Device) (c : Column) → verdict n c ≡ 0 → mend_column n d c ≡ c
mend_clean n d c clean = ap (λ (b : Bool). choose b c (rebuild_column reed_solomon n (One d) c)) (eq-eqb (verdict n c) 0 clean)

module _ (n : ℕ) (few : n ≤ 255) (d : Device) (known : Known n d) (c : Column) where
  -- a clean column is encoded, and its rebuild gives what stands there
  pub mend_is_rebuild : mend_column n d c ≡ rebuild_column reed_solomon n (One d) c
  mend_is_rebuild = go (eqb (verdict n c) 0) refl
    where
      go : (b : Bool) → eqb (verdict n c) 0 ≡ b → choose b c (rebuild_column reed_solomon n (One d) c) ≡ rebuild_column reed_solomon n (One d) c
      go true clean =
          sym (rebuild_fixed reed_solomon 8 255 reed_solomon_lem n few d c known ((verdict_zero n few c).0 (eqb-true (verdict n c) 0 clean)))
      go false unclean = refl

module _ (n : ℕ) (few : n ≤ 255) (c : Column) (symbols : Symbols 8 c) where
  -- where the verdict names the device, the new byte meets the other equation too
  named_encoded : (d : Device) → Known n d → verdict n c ≡ right_verdict d → Encoded reed_solomon n (rebuild_column reed_solomon n (One d) c)
  unfolding reed_solomon
  named_encoded (Data z) hz e =
      record {
        first = meets;
        second =
            put_other z v c (n + 1) (omega arith)
            ∙ sym
            (weighted_change reed_solomon.act reed_solomon_lem.act_sum n c z v hz
            ∙ ap (sum (parity_q reed_solomon n c)) added
            ∙ around (parity_q reed_solomon n c) (c (n + 1)));
      }
    where
      v : ℕ
      v = from_p n z c

      meets : put z v c n ≡ parity_p n (put z v c)
      meets = rebuild_meets reed_solomon 8 255 reed_solomon_lem n few (One (Data z)) c symbols hz

      -- the data byte changes by P*, which is what Q* is made of
      changed : syndrome_p n c ≡ sum (c z) v
      changed =
          ap (λ (p : ℕ). sum p (parity_p n c)) (sym (put_other z v c n (omega arith)) ∙ meets ∙ weighted_change (λ k x. x) (λ k x y. refl) n c z v hz)
          ∙ sum_comm (sum (parity_p n c) (sum (c z) v)) (parity_p n c)
          ∙ sum_cancel (parity_p n c) (sum (c z) v)

      added : reed_solomon.act z (sum (c z) v) ≡ syndrome_q reed_solomon n c
      added =
          ap (product (power 2 z)) (sym changed)
          ∙ sym
          (told_data n (syndrome_p n c) (syndrome_q reed_solomon n c) z
          (xor_lt 8 (c n) (parity_p n c) (symbols n) (parity_p_lt reed_solomon 8 255 reed_solomon_lem n few c symbols))
          (xor_lt 8 (c (n + 1)) (parity_q reed_solomon n c) (symbols (n + 1)) (parity_q_lt reed_solomon 8 255 reed_solomon_lem n few c symbols))
          e)
  named_encoded P known e =
      record {
        first = rebuild_meets reed_solomon 8 255 reed_solomon_lem n few (One P) c symbols known;
        second =
            put_other n (parity_p n c) c (n + 1) (omega arith)
            ∙ sum_only_zero (c (n + 1)) (parity_q reed_solomon n c) (told_p n (syndrome_p n c) (syndrome_q reed_solomon n c) e)
            ∙ sym (weighted_outside reed_solomon.act reed_solomon_lem.act_sum n c n (parity_p n c) (omega arith));
      }
  named_encoded Q known e =
      record {
        first =
            put_other (n + 1) (parity_q reed_solomon n c) c n (omega arith)
            ∙ sum_only_zero (c n) (parity_p n c) (told_q n (syndrome_p n c) (syndrome_q reed_solomon n c) e)
            ∙ sym (weighted_outside (λ k x. x) (λ k x y. refl) n c (n + 1) (parity_q reed_solomon n c) (omega arith));
        second = rebuild_meets reed_solomon 8 255 reed_solomon_lem n few (One Q) c symbols known;
      }

  -- so a mended column is encoded where its verdict is 0 or names the device
  pub mend_encoded : (d : Device) → Known n d → (verdict n c ≡ 0) ⊎ (verdict n c ≡ right_verdict d) → Encoded reed_solomon n (mend_column n d c)
  mend_encoded d known told =
      rw (mend_is_rebuild n few d known c)
      (⊎_elim
      (λ clean. let h = (verdict_zero n few c).0 clean in rw (rebuild_fixed reed_solomon 8 255 reed_solomon_lem n few d c known h) h)
      (named_encoded d known)
      told)
