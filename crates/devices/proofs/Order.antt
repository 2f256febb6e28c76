-- The order of two names doesn't matter to a refusal, be they devices or codes: each test of a pair is the same of the pair exchanged, and
-- codes that name no pair are wrong both ways.
-- Assumes nothing.
use mathlib.Core.Path.{◌≡◌, refl, sym, ap₂, ◌∙◌}
use mathlib.Core.Logic.{◌≢◌}
use mathlib.Core.Bool.{Bool, false, true≢false}
use mathlib.Core.List.{[], ◌∷◌}
use Prim.Native.Nat.{ℕ}
use native.Mathlib.Decide.{ℕ_discrete}
use borrow.Author.Tests.{eq-eqb, ne_eqb}
use lib.Dec.{eqb}
use Rattle.std.specs.Prelude.{Option, Some, None}
use Rattle.base.specs.Refusal.{first_of}
use Rattle.base.proofs.Choice.{either_comm}
use Rattle.column.specs.declared.Device as Column
use Rattle.column.specs.declared.Device.TheVariants.{Data, P, Q}
use Rattle.column.specs.declared.Lost.{Lost}
use Rattle.column.specs.declared.Lost.TheVariants.{Two}
use Rattle.shape.specs.declared.Geometry.{Geometry}
use Rattle.devices.specs.declared.Named.{Named}
use Rattle.devices.specs.declared.Named.TheVariants.{Device, Nothing, Meaningless}
use Rattle.shape.specs.Refusals.{library, refusal1, refusal2, refusal3}
use Rattle.devices.specs.Refusals.{unknown, same_device, rebuild_refusal}
use Rattle.devices.specs.Codes.{named_by, loss_of, naming_of, is_none, named_refusal}
use Rattle.devices.proofs.Codes.{is_none_lem}

eqb_comm : (a b : ℕ) → eqb a b ≡ eqb b a
eqb_comm a b = go (ℕ_discrete a b)
  where
    go : Dec (a ≡ b) → eqb a b ≡ eqb b a
    go (yes e) = eq-eqb a b e ∙ sym (eq-eqb b a (sym e))
    go (no n) = ne_eqb a b n ∙ sym (ne_eqb b a (λ e. n (sym e)))

pub same_comm : (d e : Column.Device) → same_device d e ≡ same_device e d
same_comm (Data k) (Data j) = eqb_comm k j
same_comm (Data k) P = refl
same_comm (Data k) Q = refl
same_comm P (Data j) = refl
same_comm P P = refl
same_comm P Q = refl
same_comm Q (Data j) = refl
same_comm Q P = refl
same_comm Q Q = refl

pub refusal_in_any_order : (g : Geometry) (len : ℕ) (d e : Column.Device) → rebuild_refusal g len (Two d e) ≡ rebuild_refusal g len (Two e d)
refusal_in_any_order g len d e =
    ap₂
    (λ (u t : Bool). first_of (refusal1 library g ∷ refusal2 library g ∷ refusal3 g len ∷ record { number = 4; applies = u } ∷ record { number = 5; applies = t } ∷ []))
    (either_comm (unknown g d) (unknown g e))
    (same_comm d e)

-- What holds of every pair exchanged, and of codes that are wrong both ways, holds of every two codes exchanged, unless one names none: a
-- second of none means one lost.
module _ (Same : Option Lost → Option Lost → Type 0) (pair : (d e : Column.Device) → Same (Some (Two d e)) (Some (Two e d))) (wrong : Same None None) where
  losses_exchanged : (first second : Named) → is_none first ≡ false → is_none second ≡ false → Same (loss_of first second) (loss_of second first)
  losses_exchanged (Device d) (Device e) a b = pair d e
  losses_exchanged (Device d) Nothing a b = absurd (true≢false b)
  losses_exchanged (Device d) Meaningless a b = wrong
  losses_exchanged Nothing second a b = absurd (true≢false a)
  losses_exchanged Meaningless (Device e) a b = wrong
  losses_exchanged Meaningless Nothing a b = absurd (true≢false b)
  losses_exchanged Meaningless Meaningless a b = wrong

  pub codes_exchanged : (first second : ℕ) → first ≢ 65535 → second ≢ 65535 → Same (naming_of first second) (naming_of second first)
  codes_exchanged first second a b =
      losses_exchanged (named_by first) (named_by second) (is_none_lem first ∙ ne_eqb first 65535 a) (is_none_lem second ∙ ne_eqb second 65535 b)

pub code_refusal_in_any_order : (g : Geometry) (len first second : ℕ) → first ≢ 65535 → second ≢ 65535
    → named_refusal g len (naming_of first second) ≡ named_refusal g len (naming_of second first)
code_refusal_in_any_order g len =
    codes_exchanged (λ a b. named_refusal g len a ≡ named_refusal g len b) (refusal_in_any_order g len) refl
