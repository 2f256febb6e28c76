-- What an accepted call does to every column of the stripe, and that a refused one leaves the stripe: from the definitions that the
-- contracts cite, by the law of `lift`.
-- Assumes nothing.
use mathlib.Core.Path.{◌≡◌, refl, sym, ap, subst, ◌∙◌}
use mathlib.Core.Logic.{◌≢◌}
use mathlib.Core.List.{List}
use Prim.Native.Nat.{ℕ, ◌+◌, ◌-◌, ◌≤◌, ◌<◌}
use native.Mathlib.Omega.{arith}
use native.Mathlib.Decide.{dec_lt}
use lib.Dec.{lit<}
use lib.ListN.{length, get_or, get_or-eq_default}
use Rattle.base.specs.Choice.{choose}
use Rattle.base.proofs.Table.{get_d_tabulate}
use Rattle.base.proofs.Refused.{left_alone, left_done}
use Rattle.column.specs.declared.Lost.{Lost}
use Rattle.column.specs.Column.{Column, encode_column, write_column, rebuild_column, reed_solomon}
use Rattle.column.specs.Lawful.{Symbols}
use Rattle.column.specs.Loss.{overwrite}
use Rattle.column.proofs.Loss.{overwrite_spares, overwrite_symbols}
use Rattle.shape.specs.declared.Geometry.{Geometry}
use Rattle.shape.specs.Layout.{size, column, column_at, role_at, lift}
use Rattle.shape.specs.Refusals.{encode_refusal, write_refusal}
use Rattle.devices.specs.Refusals.{rebuild_refusal}
use Rattle.shape.proofs.Places.{length_lift, lift_at}
use Rattle.shape.proofs.Refused.{well_shaped, write_accepted}
use Rattle.devices.proofs.Refused.{rebuild_accepted}
use Rattle.write.specs.Write.{covers, written, after_write}
use Rattle.stripe.specs.Stripe.{encoded, rebuilt}
use Rattle.stripe.specs.Calls.{after_encode, after_rebuild}
use Rattle.demands.specs.Series.{Bytes}
use Rattle.demands.specs.Members.{lose}
use Rattle.demands.specs.Called.{Loses}
use Rattle.demands.proofs.Bytes.{bytes_slice, columns_symbols}

lift_bytes : (g : Geometry) (f : ℕ → Column → Column) (s : List ℕ) → ((i : ℕ) → Symbols 8 (f i (column g s i))) → Bytes (lift g f s)
unfolding lift
lift_bytes g f s h j = go (dec_lt j (length s))
  where
    at : ℕ → ℕ
    at j = f (column_at g j) (column g s (column_at g j)) (role_at g j)

    go : Dec (j < length s) → get_or (lift g f s) j 0 < 256
    go (yes p) = rw (get_d_tabulate (length s) at j 0 p) (h (column_at g j) (role_at g j))
    go (no p) = rw (get_or-eq_default (lift g f s) 0 (subst (λ (n : ℕ). n ≤ j) (sym (length_lift g f s)) (omega arith))) (lit< tt)

-- t is s with every column i made f i of what it was
pub record Lifted (g : Geometry) (f : ℕ → Column → Column) (s t : List ℕ) : Type 0 where
  pub long : length t ≡ length s
  pub columns : (i r : ℕ) → i < g.b → r < g.n + 2 → column g t i r ≡ f i (column g s i) r
  pub bytes : ((i : ℕ) → Symbols 8 (f i (column g s i))) → Bytes t

pub lifted : (g : Geometry) (f : ℕ → Column → Column) (s : List ℕ) {t : List ℕ} → length s ≡ size g → t ≡ lift g f s → Lifted g f s t
lifted g f s len e =
    record {
      long = ap length e ∙ length_lift g f s;
      columns = λ i r hi hr. ap (λ (l : List ℕ). column g l i r) e ∙ lift_at g f s len hi hr;
      bytes = λ h. subst Bytes (sym e) (lift_bytes g f s h);
    }

-- what `lose` puts on the named devices is a loss as a series has it
pub lose_loses : (g : Geometry) (lost : Lost) (junk s : List ℕ) → length s ≡ size g → Bytes junk → Bytes s → Loses g lost s (lose g lost junk s)
lose_loses g lost junk s whole hj hs =
    let laid = lifted g (λ i c. overwrite g.n lost (column g junk i) c) s whole refl in
    record {
      bytes =
          bytes_slice (lose g lost junk s)
          (laid.bytes
          (λ i. overwrite_symbols 8 g.n lost (column g junk i) (column g s i) (columns_symbols g junk hj i) (columns_symbols g s hs i)));
      long = laid.long;
      spared = λ i r hi hr sp. laid.columns i r hi hr ∙ overwrite_spares g.n lost (column g junk i) (column g s i) r sp;
    }

pub encode_lifts : (g : Geometry) (s : List ℕ) → encode_refusal g (length s) ≡ 0 → Lifted g (λ i c. encode_column reed_solomon g.n c) s (after_encode g s)
unfolding after_encode
encode_lifts g s e =
    lifted g (λ i c. encode_column reed_solomon g.n c) s (well_shaped g s e).whole (left_done (encode_refusal g (length s)) (encoded g s) s e)

abbrev pub write_rule : Geometry → ℕ → ℕ → List ℕ → ℕ → Column → Column
write_rule g disk offset new i c =
    choose (covers offset (length new) i) (write_column reed_solomon g.n disk (get_or new (i - offset) 0) c) c

module _ (g : Geometry) (disk offset : ℕ) (new s : List ℕ) where
  abbrev k : ℕ
  k = write_refusal g (length s) disk offset (length new)

  pub write_lifts : k ≡ 0 → Lifted g (write_rule g disk offset new) s (after_write g disk offset new s)
  unfolding after_write
  write_lifts e =
      lifted g (write_rule g disk offset new) s (well_shaped g s (write_accepted g (length s) disk offset (length new) e).0).whole (left_done k (written g disk offset new s) s e)

  pub write_refused : k ≢ 0 → after_write g disk offset new s ≡ s
  unfolding after_write
  write_refused n = left_alone k (written g disk offset new s) s n

module _ (g : Geometry) (lost : Lost) (s : List ℕ) where
  pub rebuild_lifts : rebuild_refusal g (length s) lost ≡ 0 → Lifted g (λ i c. rebuild_column reed_solomon g.n lost c) s (after_rebuild g lost s)
  unfolding after_rebuild
  rebuild_lifts e =
      lifted g (λ i c. rebuild_column reed_solomon g.n lost c) s (well_shaped g s (rebuild_accepted g (length s) lost e).0).whole
      (left_done (rebuild_refusal g (length s) lost) (rebuilt g lost s) s e)

  pub rebuild_refused : rebuild_refusal g (length s) lost ≢ 0 → after_rebuild g lost s ≡ s
  unfolding after_rebuild
  rebuild_refused n = left_alone (rebuild_refusal g (length s) lost) (rebuilt g lost s) s n
