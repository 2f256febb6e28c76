-- Demand 3 for document 01's stripe and members: each kind of member does what is asked of one, so the claim and what follows from it
-- hold for every series of them.
-- Assumes nothing.
use mathlib.Core.Path.{◌≡◌, refl, sym, ap, ◌∙◌}
use mathlib.Core.Logic.{◌≢◌, ◌⊎◌, inl, inr, ⊎_elim}
use mathlib.Core.Bool.{Bool, true, false}
use mathlib.Core.List.{List}
use Prim.Native.Nat.{ℕ, ◌+◌, ◌-◌, ◌≤◌, ◌<◌}
use native.Mathlib.Omega.{arith}
use native.Mathlib.Decide.{ℕ_discrete}
use borrow.Author.Tests.{eq-eqb, ne_eqb, eqb-true, leb-true, ltb-true}
use lib.Dec.{eqb, leb, ltb}
use lib.ListN.{length, get_or}
use Rattle.base.specs.Choice.{choose, both}
use Rattle.column.specs.declared.Device.{Device}
use Rattle.column.specs.declared.Lost.{Lost}
use Rattle.column.specs.declared.Lost.TheVariants.{One}
use Rattle.column.specs.Column.{Column, reed_solomon, write_column, rebuild_column}
use Rattle.column.specs.Lawful.{Symbols}
use Rattle.column.specs.Loss.{KnownLoss}
use Rattle.column.proofs.ReedSolomon.{reed_solomon_lem}
use Rattle.column.proofs.Columns.{write_back, write_symbols}
use Rattle.column.proofs.Rebuild.{rebuild_symbols}
use Rattle.column.proofs.Series.{kept_encoded}
use Rattle.shape.specs.declared.Geometry.{Geometry}
use Rattle.std.specs.Prelude.{Option, Some, None}
use Rattle.shape.specs.Layout.{column}
use Rattle.shape.specs.Refusals.{encode_refusal, write_refusal, WellShaped}
use Rattle.devices.specs.Refusals.{rebuild_refusal}
use Rattle.devices.specs.Codes.{named_refusal}
use Rattle.shape.proofs.Refused.{well_shaped, write_accepted}
use Rattle.devices.proofs.Refused.{rebuild_accepted}
use Rattle.devices.proofs.Accepts.{rebuild_accepts}
use Rattle.write.specs.Write.{covers, after_write}
use Rattle.stripe.specs.Calls.{after_rebuild}
use Rattle.demands.specs.Layout.{LawfulLayout, layout_of}
use Rattle.demands.specs.Series.{Bytes, EncodedStripe, none, given, value_or, Member, Apart, GivesNothing, EverySeries}
use Rattle.demands.specs.Members.{sets, write_member, refused_rebuild, lose, loss_member, damage_member, refused_repair, Allowed, write, refused, loss, damage, refused_repair_lem, AllowedFrom}
use Rattle.demands.specs.Called.{Loses}
use Rattle.demands.proofs.Bytes.{slice_bytes, bytes_slice, columns_symbols, layout_lawful}
use Rattle.demands.proofs.Accepted.{Lifted, write_rule, write_lifts, write_refused, rebuild_lifts, rebuild_refused, lose_loses}
use Rattle.demands.proofs.Members.{Does, does_as, does_nothing, does_write, does_loss}
use Rattle.demands.proofs.Series.{every_series}
use Rattle.demands.proofs.Repairs.{damage_rebuilt}

-- what holds of both holds of either
chosen : {A : Type 0} (Holds : A → Type 0) {x y : A} (b : Bool) → Holds x → Holds y → Holds (choose b x y)
chosen Holds true hx hy = hx
chosen Holds false hx hy = hy

choose_same : {A : Type 0} (b : Bool) (x : A) → choose b x x ≡ x
choose_same true x = refl
choose_same false x = refl

-- a write gives a byte no value, or covers it
given_where : (len : ℕ) (h : Geometry) (disk offset : ℕ) (new : List ℕ) (k p : ℕ)
    → ((write_member len h disk offset new).gives k p ≡ none) ⊎ ((k ≡ disk) × (offset ≤ p) × (p < offset + length new))
given_where len h disk offset new k p =
    ⊎_elim (λ (nothing : sets disk offset new k p ≡ none). inl (simp (nothing, choose_same))) inr (go (eqb k disk) (leb offset p) (ltb p (offset + length new)) refl refl refl)
  where
    go : (a b c : Bool) → eqb k disk ≡ a → leb offset p ≡ b → ltb p (offset + length new) ≡ c
        → (choose (both a (both b c)) (given (get_or new (p - offset) 0)) none ≡ none) ⊎ ((k ≡ disk) × (offset ≤ p) × (p < offset + length new))
    go true true true x y z = inr (eqb-true k disk x, leb-true offset p y, ltb-true p (offset + length new) z)
    go true true false x y z = inl refl
    go true false c x y z = inl refl
    go false b c x y z = inl refl

-- ---- what each kind of member does with a stripe t
module _ (g : Geometry) (t : List ℕ) (bytes : Bytes t) (shaped : WellShaped g t) where
  abbrev Done : Member → Type 0
  Done m = Does (layout_of g) reed_solomon m t

  lawful : LawfulLayout (layout_of g) 8
  lawful = layout_lawful g shaped.some

  stays : (m : Member) → GivesNothing m → m.runs t ≡ t → Done m
  stays m = does_nothing (layout_of g) reed_solomon m t bytes

  accepted_does : (disk offset : ℕ) (new : List ℕ) → Bytes new → write_refusal g (length t) disk offset (length new) ≡ 0
      → Done (write_member (length t) g disk offset new)
  accepted_does disk offset new hn e =
      does_write (layout_of g) reed_solomon 8 lawful 255 reed_solomon_lem shaped.disks t bytes (write_member (length t) g disk offset new) disk
      record {
        known = (write_accepted g (length t) disk offset (length new) e).1;
        others = λ k p n. ⊎_elim (λ e. e) (λ c. absurd (n c.0)) (given_where (length t) g disk offset new k p);
        fed = λ p.
            rw accepted (chosen (λ v. value_or (column g t p disk) v < 256) (both (eqb disk disk) (covers offset (length new) p)) (hn (p - offset)) (old p disk));
        long = done.long;
        bytes =
            done.bytes
            (λ i.
            chosen (Symbols 8) (covers offset (length new) i)
            (write_symbols reed_solomon 8 255 reed_solomon_lem g.n shaped.disks (column g t i) disk (v i) (old i) (hn (i - offset)))
            (old i));
        columns = λ i r hi hr.
            done.columns i r hi hr
            ∙ rw (accepted, eq-eqb disk disk refl) (at i r (covers offset (length new) i));
      }
    where
      done : Lifted g (write_rule g disk offset new) t (after_write g disk offset new t)
      done = write_lifts g disk offset new t e

      accepted : eqb (write_refusal g (length t) disk offset (length new)) 0 ≡ true
      accepted = eq-eqb (write_refusal g (length t) disk offset (length new)) 0 e

      old : (i : ℕ) → Symbols 8 (column g t i)
      old = columns_symbols g t bytes

      v : ℕ → ℕ
      v i = get_or new (i - offset) 0

      at : (i r : ℕ) (b : Bool) → choose b (write_column reed_solomon g.n disk (v i) (column g t i)) (column g t i) r
          ≡ write_column reed_solomon g.n disk (value_or (column g t i disk) (choose b (given (v i)) none)) (column g t i) r
      at i r true = refl
      at i r false = ap (λ (c : Column). c r) (sym (write_back reed_solomon 8 255 reed_solomon_lem g.n shaped.disks (column g t i) disk))

  write_does : (h : Geometry) (disk offset : ℕ) (new : List ℕ) → Bytes new → (write_refusal h (length t) disk offset (length new) ≡ 0 → h ≡ g)
      → Done (write_member (length t) h disk offset new)
  write_does h disk offset new hn same = go (ℕ_discrete k 0)
    where
      k : ℕ
      k = write_refusal h (length t) disk offset (length new)

      go : Dec (k ≡ 0) → Done (write_member (length t) h disk offset new)
      go (yes e) = rw (same e) (accepted_does disk offset new hn (rw (same e) at e))
      go (no n) = stays (write_member (length t) h disk offset new) (λ i p. rw (ne_eqb k 0 n)) (write_refused h disk offset new t n)

  refused_does : (h : Geometry) (naming : Option Lost) → named_refusal h (length t) naming ≢ 0 → Done (refused_rebuild h naming)
  refused_does h (Some lost) n = stays (refused_rebuild h (Some lost)) (λ k p. refl) (rebuild_refused h lost t n)
  refused_does h None n = stays (refused_rebuild h None) (λ k p. refl) refl

  loss_does : (lost : Lost) (junk : List ℕ) → Bytes junk → rebuild_refusal g (length t) lost ≡ 0 → EncodedStripe (layout_of g) reed_solomon t
      → Done (loss_member g lost junk)
  loss_does lost junk hj e enc =
      does_loss (layout_of g) reed_solomon 8 lawful 255 reed_solomon_lem shaped.disks t bytes (loss_member g lost junk) u lost shaped.whole
      record {
        known = (rebuild_accepted g (length t) lost e).1;
        nothing = λ k p. refl;
        encoded = enc;
        long = back.long ∙ loses.long;
        left = left;
        bytes = back.bytes (λ i. rebuild_symbols reed_solomon 8 255 reed_solomon_lem g.n shaped.disks lost (column g u i) (columns_symbols g u left i));
        spared = λ i r hi hr sp. sym (loses.spared i r hi hr sp);
        columns = back.columns;
      }
    where
      u : List ℕ
      u = lose g lost junk t

      loses : Loses g lost t u
      loses = lose_loses g lost junk t shaped.whole hj bytes

      left : Bytes u
      left = slice_bytes u loses.bytes

      back : Lifted g (λ i c. rebuild_column reed_solomon g.n lost c) u (after_rebuild g lost u)
      back = rebuild_lifts g lost u (ap (λ (n : ℕ). rebuild_refusal g n lost) loses.long ∙ e)

  -- damage and its repair are a loss of that device and its rebuild
  damage_does : (d : Device) (junk : List ℕ) → Bytes junk → KnownLoss g.n (One d) → encode_refusal g (length t) ≡ 0
      → EncodedStripe (layout_of g) reed_solomon t
      → Done (damage_member g d junk)
  damage_does d junk hj known fits enc =
      does_as (layout_of g) reed_solomon (loss_member g (One d) junk) (damage_member g d junk) t
      (damage_rebuilt g t (bytes_slice t bytes) fits enc d known (lose g (One d) junk t) (lose_loses g (One d) junk t shaped.whole hj bytes))
      refl
      (loss_does (One d) junk hj (rebuild_accepts g (length t) fits (One d) known) enc)

  allowed_does : (encoded : Type 0) → (encoded → EncodedStripe (layout_of g) reed_solomon t) → encode_refusal g (length t) ≡ 0 → (m : Member)
      → Allowed g (length t) encoded m
      → Done m
  allowed_does encoded enc fits m (write h disk offset new hn same) = write_does h disk offset new hn same
  allowed_does encoded enc fits m (refused h naming n) = refused_does h naming n
  allowed_does encoded enc fits m (loss lost junk hj e start) = loss_does lost junk hj e (enc start)
  allowed_does encoded enc fits m (damage d junk hj known start) = damage_does d junk hj known fits (enc start)
  allowed_does encoded enc fits m refused_repair_lem = stays refused_repair (λ k p. refl) refl

-- ---- every series from the stripe s
pub demand3 : (g : Geometry) (s : List ℕ) → Bytes s → encode_refusal g (length s) ≡ 0
    → EverySeries (layout_of g) reed_solomon s (AllowedFrom g s)
demand3 g s bytes fits =
    every_series (layout_of g) reed_solomon 8 (layout_lawful g shaped.some) s shaped.whole bytes (AllowedFrom g s)
    (λ m allowed t reached.
    let len : length t ≡ length s = reached.long ∙ sym shaped.whole in
    let also : encode_refusal g (length t) ≡ 0 = ap (encode_refusal g) len ∙ fits in
    allowed_does g t reached.bytes (well_shaped g t also) (EncodedStripe (layout_of g) reed_solomon s)
    (λ enc i hi. kept_encoded reed_solomon g.n (reached.kept i hi) (enc i hi))
    also
    m
    (rw len allowed))
  where
    shaped : WellShaped g s
    shaped = well_shaped g s fits

-- ---- two writes share no byte where they are on different disks, or one ends before the other starts
pub apart_by_places : (len : ℕ) (h : Geometry) (disk offset : ℕ) (new : List ℕ) (h' : Geometry) (disk' offset' : ℕ) (new' : List ℕ)
    → (disk ≢ disk') ⊎ ((offset + length new ≤ offset') ⊎ (offset' + length new' ≤ offset))
    → Apart (write_member len h disk offset new) (write_member len h' disk' offset' new')
apart_by_places len h disk offset new h' disk' offset' new' places k p =
    ⊎_elim inl (λ a. ⊎_elim inr (λ b. absurd (⊎_elim (λ n. n (sym a.0 ∙ b.0)) (⊎_elim (λ q. omega arith) (λ q. omega arith)) places)) (given_where len h' disk' offset' new' k p))
    (given_where len h disk offset new k p)
