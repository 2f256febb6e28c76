-- Demand 2, over the definitions that the contracts of encode, write and rebuild cite, for every stripe of bytes and every accepted call.
-- Each statement is that of `Columns` or `Rebuild` at every column.
-- Assumes nothing.
use mathlib.Core.Path.{◌≡◌, refl, sym, ap, ap₂, ◌∙◌}
use mathlib.Core.Logic.{◌≢◌}
use mathlib.Core.Bool.{Bool, true, false}
use mathlib.Core.List.{List}
use Prim.Native.Nat.{ℕ, ◌+◌, ◌-◌, ◌≤◌, ◌<◌}
use native.Mathlib.Omega.{arith}
use native.Mathlib.Decide.{ℕ_discrete}
use borrow.Author.Tests.{eqb-false}
use lib.Dec.{eqb}
use lib.ListN.{length, get_or}
use Rattle.gf256.specs.Field.{sum}
use Rattle.shape.specs.declared.Geometry.{Geometry}
use Rattle.column.specs.declared.Device.{Device}
use Rattle.column.specs.declared.Device.TheVariants.{Data, P, Q}
use Rattle.column.specs.declared.Lost.{Lost}
use Rattle.column.specs.declared.Lost.TheVariants.{One, Two}
use Rattle.base.specs.Choice.{choose}
use Rattle.column.specs.Column.{Column, role_of, new_byte, encode_column, write_column, rebuild_column, reed_solomon}
use Rattle.shape.specs.Layout.{column}
use Rattle.write.specs.Write.{covers, after_write}
use Rattle.shape.specs.Refusals.{encode_refusal, write_refusal, WellShaped}
use Rattle.devices.specs.Refusals.{rebuild_refusal}
use Rattle.devices.specs.Codes.{naming_of, named_refusal}
use Rattle.stripe.specs.Stripe.{rebuilt}
use Rattle.stripe.specs.Calls.{after_encode, after_rebuild, rebuilt_by}
use Rattle.base.proofs.Refused.{left_done}
use Rattle.shape.proofs.Places.{by_columns}
use Rattle.devices.proofs.Exchanged.{rebuild_exchanged}
use Rattle.devices.proofs.Order.{refusal_in_any_order, codes_exchanged, code_refusal_in_any_order}
use Rattle.shape.proofs.Refused.{well_shaped, write_accepted}
use Rattle.devices.proofs.Refused.{rebuild_accepted}
use Rattle.column.proofs.Loss.{known_role}
use Rattle.column.proofs.Put.{put_same}
use Rattle.column.proofs.Total.{total_same}
use Rattle.column.specs.Loss.{KnownLoss}
use Rattle.demands.specs.Layout.{layout_of}
use Rattle.demands.specs.Series.{Bytes, EncodedStripe}
use Rattle.demands.specs.Demand2.{Rebuilt, SameColumn}
use Rattle.column.proofs.ReedSolomon.{reed_solomon_lem}
use Rattle.column.proofs.Columns.{encode_data, encode_encoded, encode_fixed, encoded_same, write_same}
use Rattle.column.proofs.Rebuild.{rebuild_spares, rebuild_meets, rebuild_only, rebuild_blind, meets_same}
use Rattle.demands.proofs.Bytes.{columns_symbols}
use Rattle.demands.proofs.Accepted.{encode_lifts, write_lifts, rebuild_lifts, rebuild_refused}

-- ---- encode
module _ (g : Geometry) (s : List ℕ) (fits : encode_refusal g (length s) ≡ 0) where
  whole : WellShaped g s
  whole = well_shaped g s fits

  after_encode_lem : (i r : ℕ) → i < g.b → r < g.n + 2 → column g (after_encode g s) i r ≡ encode_column reed_solomon g.n (column g s i) r
  after_encode_lem = (encode_lifts g s fits).columns

  -- both equations hold at every column, and the data are as before
  pub encode_meets : EncodedStripe (layout_of g) reed_solomon (after_encode g s)
  encode_meets i hi =
      encoded_same reed_solomon 8 255 reed_solomon_lem g.n whole.disks (encode_column reed_solomon g.n (column g s i)) (column g (after_encode g s) i)
      (λ r hr. sym (after_encode_lem i r hi hr))
      (encode_encoded reed_solomon 8 255 reed_solomon_lem g.n whole.disks (column g s i))

  pub encode_keeps_data : (i k : ℕ) → i < g.b → k < g.n → column g (after_encode g s) i k ≡ column g s i k
  encode_keeps_data i k hi hk =
      after_encode_lem i k hi (omega arith) ∙ encode_data reed_solomon 8 255 reed_solomon_lem g.n whole.disks (column g s i) k hk

  -- an encoded stripe is left as it is
  pub encode_again : EncodedStripe (layout_of g) reed_solomon s → after_encode g s ≡ s
  encode_again enc =
      by_columns g whole.some (after_encode g s) s ((encode_lifts g s fits).long ∙ whole.whole) whole.whole
      (λ i r hi hr.
      after_encode_lem i r hi hr ∙ ap (λ (c : Column). c r) (encode_fixed reed_solomon 8 255 reed_solomon_lem g.n whole.disks (column g s i) (enc i hi)))

-- ---- rebuild
module _ (g : Geometry) (l : Lost) (s : List ℕ) (accepted : rebuild_refusal g (length s) l ≡ 0) where
  sound : KnownLoss g.n l
  sound = (rebuild_accepted g (length s) l accepted).1

  fitting : WellShaped g s
  fitting = well_shaped g s (rebuild_accepted g (length s) l accepted).0

  rebuild_length : length (after_rebuild g l s) ≡ length s
  rebuild_length = (rebuild_lifts g l s accepted).long

  after_rebuild_lem : (i r : ℕ) → i < g.b → r < g.n + 2 → column g (after_rebuild g l s) i r ≡ rebuild_column reed_solomon g.n l (column g s i) r
  after_rebuild_lem = (rebuild_lifts g l s accepted).columns

module _ (g : Geometry) (l : Lost) (s : List ℕ) (bytes : Bytes s) (accepted : rebuild_refusal g (length s) l ≡ 0) where
  pub demand2 : Rebuilt g l s (after_rebuild g l s)
  demand2 =
      record {
        spares = λ i r hi hr sp. after_rebuild_lem g l s accepted i r hi hr ∙ rebuild_spares reed_solomon g.n l (column g s i) r sp;
        meets = λ i hi.
            meets_same reed_solomon 8 255 reed_solomon_lem g.n few l (rebuild_column reed_solomon g.n l (column g s i)) (column g (after_rebuild g l s) i)
            (λ r hr. sym (after_rebuild_lem g l s accepted i r hi hr))
            (rebuild_meets reed_solomon 8 255 reed_solomon_lem g.n few l (column g s i) (columns_symbols g s bytes i) (sound g l s accepted));
        only = λ t ht len agree meets.
            by_columns g fit.some t (after_rebuild g l s) (len ∙ fit.whole) (rebuild_length g l s accepted ∙ fit.whole)
            (λ i r hi hr.
            rebuild_only reed_solomon 8 255 reed_solomon_lem g.n few (column g s i) (column g t i) l (columns_symbols g s bytes i) (columns_symbols g t ht i) (sound g l s accepted) (λ q hq sp. agree i q hi hq sp) (meets i hi) r hr
            ∙ sym (after_rebuild_lem g l s accepted i r hi hr));
        blind = λ t ht len agree.
            let also : rebuild_refusal g (length t) l ≡ 0 = ap (λ (n : ℕ). rebuild_refusal g n l) len ∙ accepted in
            by_columns g fit.some (after_rebuild g l t) (after_rebuild g l s) (rebuild_length g l t also ∙ len ∙ fit.whole) (rebuild_length g l s accepted ∙ fit.whole)
            (λ i r hi hr.
            after_rebuild_lem g l t also i r hi hr
            ∙ rebuild_blind reed_solomon 8 255 reed_solomon_lem g.n few l (column g s i) (column g t i) (columns_symbols g s bytes i) (columns_symbols g t ht i) (sound g l s accepted) (λ q hq sp. agree i q hi hq sp) r hr
            ∙ sym (after_rebuild_lem g l s accepted i r hi hr));
      }
    where
      fit : WellShaped g s
      fit = fitting g l s accepted

      few : g.n ≤ 255
      few = fit.disks

-- ---- what the new byte of one named device comes from
module _ (g : Geometry) (s t : List ℕ) (hs : Bytes s) (ht : Bytes t) (len : length t ≡ length s) (i : ℕ) (hi : i < g.b) where
  -- after both rebuilds the device has the same byte at column i
  abbrev SameByte : Device → Type 0
  SameByte d = column g (after_rebuild g (One d) t) i (role_of g.n d) ≡ column g (after_rebuild g (One d) s) i (role_of g.n d)

  same_byte : (d : Device) → rebuild_refusal g (length s) (One d) ≡ 0
      → new_byte reed_solomon g.n d (column g t i) ≡ new_byte reed_solomon g.n d (column g s i)
      → SameByte d
  same_byte d accepted e =
      after_rebuild_lem g (One d) t (ap (λ (n : ℕ). rebuild_refusal g n (One d)) len ∙ accepted) i x hi below
      ∙ put_same x (new_byte reed_solomon g.n d (column g t i)) (column g t i)
      ∙ e
      ∙ sym (after_rebuild_lem g (One d) s accepted i x hi below ∙ put_same x (new_byte reed_solomon g.n d (column g s i)) (column g s i))
    where
      x : ℕ
      x = role_of g.n d

      below : x < g.n + 2
      below = known_role g.n d (sound g (One d) s accepted)

  -- a data disk's from the other data and P, without Q
  pub one_data_without_q : (x : ℕ) → rebuild_refusal g (length s) (One (Data x)) ≡ 0
      → ((r : ℕ) → r < g.n + 1 → r ≢ x → column g t i r ≡ column g s i r)
      → SameByte (Data x)
  one_data_without_q x accepted agree =
      same_byte (Data x) accepted
      (ap₂ sum (agree g.n (omega arith) (omega (arith, sound g (One (Data x)) s accepted))) (total_same g.n (λ k p. at k p (eqb k x) refl)))
    where
      at : (k : ℕ) → k < g.n → (b : Bool) → eqb k x ≡ b → choose b 0 (column g t i k) ≡ choose b 0 (column g s i k)
      at k p true q = refl
      at k p false q = agree k (omega arith) (eqb-false k x q)

  -- a parity's from the data alone
  module _ (agree : (k : ℕ) → k < g.n → column g t i k ≡ column g s i k) where
    pub one_p_from_data : rebuild_refusal g (length s) (One P) ≡ 0 → SameByte P
    one_p_from_data accepted = same_byte P accepted (total_same g.n agree)

    pub one_q_from_data : rebuild_refusal g (length s) (One Q) ≡ 0 → SameByte Q
    one_q_from_data accepted = same_byte Q accepted (total_same g.n (λ k p. ap (reed_solomon.act k) (agree k p)))

-- ---- the order of the two names doesn't matter, be the call accepted or refused
pub names_in_any_order : (g : Geometry) (d e : Device) (s : List ℕ) → Bytes s → after_rebuild g (Two e d) s ≡ after_rebuild g (Two d e) s
unfolding after_rebuild
names_in_any_order g d e s bytes = go (ℕ_discrete (rebuild_refusal g (length s) (Two d e)) 0)
  where
    order : rebuild_refusal g (length s) (Two e d) ≡ rebuild_refusal g (length s) (Two d e)
    order = refusal_in_any_order g (length s) e d

    go : Dec (rebuild_refusal g (length s) (Two d e) ≡ 0) → after_rebuild g (Two e d) s ≡ after_rebuild g (Two d e) s
    go (yes accepted) =
        left_done (rebuild_refusal g (length s) (Two e d)) (rebuilt g (Two e d) s) s (order ∙ accepted)
        ∙ rebuild_exchanged g d e s bytes accepted
        ∙ sym (left_done (rebuild_refusal g (length s) (Two d e)) (rebuilt g (Two d e) s) s accepted)
    go (no refused) = rebuild_refused g (Two e d) s (λ z. refused (sym order ∙ z)) ∙ sym (rebuild_refused g (Two d e) s refused)

-- the same where codes name them, unless one names none
pub codes_in_any_order : (g : Geometry) (first second : ℕ) (s : List ℕ) → Bytes s → first ≢ 65535 → second ≢ 65535
    → (named_refusal g (length s) (naming_of first second) ≡ named_refusal g (length s) (naming_of second first))
    × (rebuilt_by g (naming_of first second) s ≡ rebuilt_by g (naming_of second first) s)
codes_in_any_order g first second s bytes a b = (
  code_refusal_in_any_order g (length s) first second a b,
  codes_exchanged (λ x y. rebuilt_by g x s ≡ rebuilt_by g y s) (λ d e. names_in_any_order g e d s bytes) refl first second a b,
)

-- ---- after an accepted call column i depends on the earlier column i, the call's numbers and, for a write, the new byte there
pub encode_local : (g : Geometry) (s t : List ℕ) → Bytes s → Bytes t → length t ≡ length s → encode_refusal g (length s) ≡ 0 → (i : ℕ) → i < g.b
    → SameColumn g i s t
    → SameColumn g i (after_encode g s) (after_encode g t)
encode_local g s t hs ht len fits i hi same r hr =
    after_encode_lem g s fits i r hi hr
    ∙ rebuild_blind reed_solomon 8 255 reed_solomon_lem g.n (whole g s fits).disks (Two P Q) (column g t i) (column g s i) (columns_symbols g t ht i) (columns_symbols g s hs i) (tt, tt, omega arith) (λ q hq sp. same q hq) r hr
    ∙ sym (after_encode_lem g t (ap (encode_refusal g) len ∙ fits) i r hi hr)

pub rebuild_local : (g : Geometry) (l : Lost) (s t : List ℕ) → Bytes s → Bytes t → length t ≡ length s → rebuild_refusal g (length s) l ≡ 0 → (i : ℕ) → i < g.b
    → SameColumn g i s t
    → SameColumn g i (after_rebuild g l s) (after_rebuild g l t)
rebuild_local g l s t hs ht len accepted i hi same r hr =
    after_rebuild_lem g l s accepted i r hi hr
    ∙ rebuild_blind reed_solomon 8 255 reed_solomon_lem g.n (fitting g l s accepted).disks l (column g t i) (column g s i) (columns_symbols g t ht i) (columns_symbols g s hs i) (sound g l s accepted) (λ q hq sp. same q hq) r hr
    ∙ sym (after_rebuild_lem g l t (ap (λ (n : ℕ). rebuild_refusal g n l) len ∙ accepted) i r hi hr)

pub write_local : (g : Geometry) (disk offset : ℕ) (new other s t : List ℕ) → Bytes s → Bytes t → Bytes new → length t ≡ length s → length other ≡ length new
    → write_refusal g (length s) disk offset (length new) ≡ 0
    → (i : ℕ)
    → i < g.b
    → (covers offset (length new) i ≡ true → get_or new (i - offset) 0 ≡ get_or other (i - offset) 0)
    → SameColumn g i s t
    → SameColumn g i (after_write g disk offset new s) (after_write g disk offset other t)
write_local g disk offset new other s t hs ht hn len count accepted i hi byte same r hr =
    (write_lifts g disk offset new s accepted).columns i r hi hr
    ∙ at (covers offset (length new) i) refl
    ∙ ap (λ (n : ℕ). choose (covers offset n i) (write_column reed_solomon g.n disk (get_or other (i - offset) 0) (column g t i)) (column g t i) r) (sym count)
    ∙ sym ((write_lifts g disk offset other t (ap₂ (λ (n c : ℕ). write_refusal g n disk offset c) len count ∙ accepted)).columns i r hi hr)
  where
    at : (b : Bool) → covers offset (length new) i ≡ b → choose b (write_column reed_solomon g.n disk (get_or new (i - offset) 0) (column g s i)) (column g s i) r
        ≡ choose b (write_column reed_solomon g.n disk (get_or other (i - offset) 0) (column g t i)) (column g t i) r
    at true e =
        write_same reed_solomon g.n disk (get_or new (i - offset) 0) (column g s i) (column g t i) (write_accepted g (length s) disk offset (length new) accepted).1 same r hr
        ∙ ap (λ (v : ℕ). write_column reed_solomon g.n disk v (column g t i) r) (byte e)
    at false e = same r hr
