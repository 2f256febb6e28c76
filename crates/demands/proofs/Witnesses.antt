-- What the theorems about stripes suppose can be met: what a loss puts where; each kind of member can stand in a series from every well-shaped
-- stripe, by a call that gives it; and a member that gives nothing can be left out of every series.
-- Assumes nothing.
use mathlib.Core.Path.{◌≡◌, refl, sym, ap, ◌∙◌}
use mathlib.Core.Logic.{◌≢◌}
use mathlib.Core.Bool.{true, false}
use mathlib.Core.List.{List, [], ◌∷◌, ◌++◌}
use Prim.Native.Nat.{ℕ, ◌+◌, ◌-◌, ◌≤◌, ◌<◌}
use native.Mathlib.Nat.{le_refl}
use native.Mathlib.Omega.{arith}
use borrow.Author.Tests.{le-leb, ne_eqb}
use lib.ListN.{length}
use Rattle.base.proofs.Refused.{first_passed}
use Rattle.column.specs.declared.Device.{Device}
use Rattle.column.specs.declared.Device.TheVariants.{Data, P, Q}
use Rattle.column.specs.declared.Lost.{Lost}
use Rattle.column.specs.declared.Lost.TheVariants.{One, Two}
use Rattle.column.specs.Column.{reed_solomon, role_of}
use Rattle.column.specs.Loss.{Known, KnownLoss, Spared, overwrite}
use Rattle.column.proofs.Loss.{known_role, overwrite_one, overwrite_first, overwrite_second, overwrite_spares}
use Rattle.shape.specs.declared.Geometry.{Geometry}
use Rattle.std.specs.Prelude.{Option, Some}
use Rattle.shape.specs.Layout.{geometry, size, column}
use Rattle.shape.specs.Refusals.{library, shape_refusals, stretch_refusals, encode_refusal, write_refusal, WellShaped}
use Rattle.devices.specs.Refusals.{loss_refusals, rebuild_refusal}
use Rattle.devices.specs.Codes.{named_by, naming_of, named_refusal}
use Rattle.shape.proofs.Places.{lift_at}
use Rattle.shape.proofs.Refused.{well_shaped, empty_write_refused}
use Rattle.shape.proofs.Accepts.{write_accepts, empty_write_six}
use Rattle.devices.proofs.Accepts.{rebuild_accepts}
use Rattle.write.specs.Write.{after_write}
use Rattle.stripe.specs.Calls.{after_rebuild, after_repair, rebuilt_by}
use Rattle.demands.specs.Layout.{layout_of}
use Rattle.demands.specs.Series.{EncodedStripe, Member, GivesNothing, Without, end, keep, drop}
use Rattle.demands.specs.Members.{write_member, refused_rebuild, lose, loss_member, damage_member, refused_repair}
use Rattle.demands.specs.Called.{Slice, Loses, Step, writes, refuses, refuses_codes, refuses_repair, rebuilds, rebuilds_codes, repairs}
use Rattle.demands.proofs.Bytes.{slice_bytes, bytes_slice}
use Rattle.demands.proofs.Accepted.{write_refused, lose_loses}
use Rattle.demands.proofs.Repairs.{damage_accepted}

-- ---- what a loss puts where
module _ (g : Geometry) (junk s : List ℕ) (whole : length s ≡ size g) (i : ℕ) (hi : i < g.b) where
  lose_at : (lost : Lost) (r : ℕ) → r < g.n + 2 → column g (lose g lost junk s) i r ≡ overwrite g.n lost (column g junk i) (column g s i) r
  lose_at lost r hr = lift_at g (λ i c. overwrite g.n lost (column g junk i) c) s whole hi hr

  -- the named device has the bytes of the loss
  pub lose_one : (d : Device) → Known g.n d → column g (lose g (One d) junk s) i (role_of g.n d) ≡ column g junk i (role_of g.n d)
  lose_one d known = lose_at (One d) (role_of g.n d) (known_role g.n d known) ∙ overwrite_one g.n d (column g junk i) (column g s i)

  -- both of two do
  pub lose_two : (d e : Device) → Known g.n d → Known g.n e
      → (column g (lose g (Two d e) junk s) i (role_of g.n d) ≡ column g junk i (role_of g.n d))
      × (column g (lose g (Two d e) junk s) i (role_of g.n e) ≡ column g junk i (role_of g.n e))
  lose_two d e hd he = (
    lose_at (Two d e) (role_of g.n d) (known_role g.n d hd) ∙ overwrite_first g.n d e (column g junk i) (column g s i),
    lose_at (Two d e) (role_of g.n e) (known_role g.n e he) ∙ overwrite_second g.n d e (column g junk i) (column g s i),
  )

  -- the others have what they had
  pub lose_spares : (lost : Lost) (r : ℕ) → r < g.n + 2 → Spared g.n lost r → column g (lose g lost junk s) i r ≡ column g s i r
  lose_spares lost r hr spared = lose_at lost r hr ∙ overwrite_spares g.n lost (column g junk i) (column g s i) r spared

-- ---- each kind of member, by a call on the stripe s
module _ (g : Geometry) (encoded : Type 0) (s : List ℕ) (fits : encode_refusal g (length s) ≡ 0) where
  shaped : WellShaped g s
  shaped = well_shaped g s fits

  pub accepted_write : (disk offset : ℕ) (new : List ℕ) → Slice new → disk < g.n → 0 < length new → offset ≤ g.b → length new ≤ g.b - offset
      → Step g encoded s (write_member (length s) g disk offset new) (after_write g disk offset new s)
  accepted_write disk offset new slice hd hs ho hc =
      writes g disk offset new 0 slice (λ e. refl) record { result = sym (write_accepts g (length s) fits disk offset (length new) hd hs ho hc); stripe = refl }

  -- disk n
  pub refused_write : (offset : ℕ) (new : List ℕ) → Slice new → Step g encoded s (write_member (length s) g g.n offset new) (after_write g g.n offset new s)
  refused_write offset new slice =
      writes g g.n offset new 4 slice (λ e. absurd (omega arith))
      record {
        result = sym (first_passed (shape_refusals library g (length s)) (stretch_refusals g g.n offset (length new)) refl fits ∙ simp (le-leb g.n g.n (le_refl g.n)));
        stripe = refl;
      }

  -- no bytes, at any offset of a disk that is there
  pub empty_write : (disk offset : ℕ) → disk < g.n → Step g encoded s (write_member (length s) g disk offset []) s
  empty_write disk offset hd =
      writes g disk offset [] 6 (bytes_slice [] (λ j. omega arith)) (λ e. absurd (omega arith))
      record { result = sym (empty_write_six g (length s) fits disk offset hd); stripe = sym (write_refused g disk offset [] s (empty_write_refused g (length s) disk offset)) }

  pub refused_rebuild_lem : Step g encoded s (refused_rebuild g (Some (One (Data g.n)))) (after_rebuild g (One (Data g.n)) s)
  refused_rebuild_lem =
      refuses g (One (Data g.n)) 4 (λ e. omega arith)
      record {
        result = sym (first_passed (shape_refusals library g (length s)) (loss_refusals g (One (Data g.n))) refl fits ∙ simp (le-leb g.n g.n (le_refl g.n)));
        stripe = refl;
      }

  -- none twice
  pub refused_codes : Step g encoded s (refused_rebuild g (naming_of 65535 65535)) s
  unfolding named_by
  refused_codes =
      refuses_codes g 65535 65535 4 (λ e. omega arith)
      record {
        result = sym (first_passed (shape_refusals library g (length s)) (record { number = 4; applies = true } ∷ record { number = 5; applies = false } ∷ []) refl fits);
        stripe = refl;
      }

  -- any loss, with its rebuild by devices or by codes
  module _ (enc : encoded) (slice : Slice s) (lost : Lost) (known : KnownLoss g.n lost) (junk : List ℕ) (bytes : Slice junk) where
    loses : Loses g lost s (lose g lost junk s)
    loses = lose_loses g lost junk s shaped.whole (slice_bytes junk bytes) (slice_bytes s slice)

    accepted : rebuild_refusal g (length (lose g lost junk s)) lost ≡ 0
    accepted = ap (λ (n : ℕ). rebuild_refusal g n lost) loses.long ∙ rebuild_accepts g (length s) fits lost known

    pub loss_and_rebuild : Step g encoded s (loss_member g lost (lose g lost junk s)) (after_rebuild g lost (lose g lost junk s))
    loss_and_rebuild = rebuilds lost (lose g lost junk s) enc loses record { result = sym accepted; stripe = refl }

    pub loss_and_rebuild_by_codes : (first second : ℕ) → naming_of first second ≡ Some lost
        → Step g encoded s (loss_member g lost (lose g lost junk s)) (after_rebuild g lost (lose g lost junk s))
    loss_and_rebuild_by_codes first second named =
        rebuilds_codes first second lost (lose g lost junk s) enc named loses
        record {
          result = sym (ap (named_refusal g (length (lose g lost junk s))) named ∙ accepted);
          stripe = sym (ap (λ (n : Option Lost). rebuilt_by g n (lose g lost junk s)) named);
        }

  -- a repair of no disks
  pub refused_repair_lem : Step g encoded s refused_repair s
  unfolding after_repair
  refused_repair_lem = refuses_repair (geometry 0 0) 1 (λ e. omega arith) record { result = refl; stripe = refl }

  -- any damage of one device, with its repair
  pub damage_and_repair : (enc : encoded) → Slice s → EncodedStripe (layout_of g) reed_solomon s → (d : Device) → KnownLoss g.n (One d) → (junk : List ℕ)
      → Slice junk
      → Step g encoded s (damage_member g d (lose g (One d) junk s)) (after_repair g (lose g (One d) junk s))
  damage_and_repair enc slice is d known junk bytes =
      let left = loses enc slice (One d) known junk bytes in
      repairs d (lose g (One d) junk s) enc known left
      record { result = sym (damage_accepted g s slice fits is d known (lose g (One d) junk s) left); stripe = refl }

-- codes that name a loss of one device, and of two
pub code_of_a_disk : naming_of 0 65535 ≡ Some (One (Data 0))
unfolding named_by
code_of_a_disk = refl

pub codes_of_parities : naming_of 256 257 ≡ Some (Two P Q)
unfolding named_by
codes_of_parities = refl

-- ---- members that give nothing
pub loss_gives_nothing : (g : Geometry) (lost : Lost) (junk : List ℕ) → GivesNothing (loss_member g lost junk)
loss_gives_nothing g lost junk k p = refl

pub damage_gives_nothing : (g : Geometry) (d : Device) (junk : List ℕ) → GivesNothing (damage_member g d junk)
damage_gives_nothing g d junk k p = refl

pub refused_repair_gives_nothing : GivesNothing refused_repair
refused_repair_gives_nothing k p = refl

pub refused_rebuild_gives_nothing : (h : Geometry) (naming : Option Lost) → GivesNothing (refused_rebuild h naming)
refused_rebuild_gives_nothing h naming k p = refl

pub refused_write_gives_nothing : (len : ℕ) (h : Geometry) (disk offset : ℕ) (new : List ℕ) → write_refusal h len disk offset (length new) ≢ 0
    → GivesNothing (write_member len h disk offset new)
refused_write_gives_nothing len h disk offset new n k p = rw (ne_eqb (write_refusal h len disk offset (length new)) 0 n)

pub empty_write_gives_nothing : (len : ℕ) (h : Geometry) (disk offset : ℕ) → GivesNothing (write_member len h disk offset [])
empty_write_gives_nothing len h disk offset = refused_write_gives_nothing len h disk offset [] (empty_write_refused h len disk offset)

without_none : (ms : List Member) → Without ms ms
without_none [] = end
without_none (m ∷ ms) = keep m (without_none ms)

pub without_one : (before after : List Member) (m : Member) → GivesNothing m → Without (before ++ (m ∷ after)) (before ++ after)
without_one [] after m nothing = drop nothing (without_none after)
without_one (b ∷ before) after m nothing = keep b (without_one before after m nothing)
