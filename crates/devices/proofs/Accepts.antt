-- A rebuild of a known loss is accepted: none of the tests of its order applies. With `Refused` it is accepted exactly then.
-- Assumes nothing.
use mathlib.Core.Path.{◌≡◌, refl, ◌∙◌}
use mathlib.Core.Logic.{◌≢◌}
use mathlib.Core.Bool.{false}
use Prim.Native.Nat.{ℕ}
use borrow.Author.Tests.{ne_eqb, lt-leb}
use Rattle.base.specs.Refusal.{first_of}
use Rattle.base.proofs.Refused.{first_passed}
use Rattle.column.specs.declared.Device.{Device}
use Rattle.column.specs.declared.Device.TheVariants.{Data, P, Q}
use Rattle.column.specs.declared.Lost.{Lost}
use Rattle.column.specs.declared.Lost.TheVariants.{One, Two}
use Rattle.column.specs.Column.{role_of}
use Rattle.column.specs.Loss.{Known, KnownLoss}
use Rattle.shape.specs.declared.Geometry.{Geometry}
use Rattle.shape.specs.Refusals.{library, shape_refusals, encode_refusal}
use Rattle.devices.specs.Refusals.{loss_refusals, unknown, same_device, rebuild_refusal}

module _ (g : Geometry) (len : ℕ) (fits : encode_refusal g len ≡ 0) where
  has : (d : Device) → Known g.n d → unknown g d ≡ false
  has (Data k) h = lt-leb g.n k h
  has P h = refl
  has Q h = refl

  differ : (d e : Device) → role_of g.n d ≢ role_of g.n e → same_device d e ≡ false
  differ (Data k) (Data j) n = ne_eqb k j n
  differ (Data k) P n = refl
  differ (Data k) Q n = refl
  differ P (Data j) n = refl
  differ P P n = absurd (n refl)
  differ P Q n = refl
  differ Q (Data j) n = refl
  differ Q P n = refl
  differ Q Q n = absurd (n refl)

  pub rebuild_accepts : (lost : Lost) → KnownLoss g.n lost → rebuild_refusal g len lost ≡ 0
  rebuild_accepts lost known = first_passed (shape_refusals library g len) (loss_refusals g lost) refl fits ∙ none lost known
    where
      none : (lost : Lost) → KnownLoss g.n lost → first_of (loss_refusals g lost) ≡ 0
      none (One d) h = simp (has d h)
      none (Two d e) h = simp (has d h.0, has e h.1, differ d e h.2)
