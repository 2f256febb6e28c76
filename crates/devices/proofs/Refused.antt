-- What a rebuild that is not refused tells of its loss: its devices are of the stripe, and they are different ones.
-- Assumes nothing.
use mathlib.Core.Path.{◌≡◌, refl}
use mathlib.Core.Logic.{◌≢◌}
use mathlib.Core.Bool.{false, true≢false}
use Prim.Native.Nat.{ℕ}
use native.Mathlib.Omega.{arith}
use borrow.Author.Tests.{leb-false, eqb-false}
use Rattle.base.specs.Refusal.{first_of}
use Rattle.base.proofs.Choice.{either_false}
use Rattle.base.proofs.Refused.{none_applies, first_none}
use Rattle.column.specs.declared.Device.{Device}
use Rattle.column.specs.declared.Device.TheVariants.{Data, P, Q}
use Rattle.column.specs.declared.Lost.{Lost}
use Rattle.column.specs.declared.Lost.TheVariants.{One, Two}
use Rattle.column.specs.Column.{role_of}
use Rattle.column.specs.Loss.{Known, KnownLoss}
use Rattle.shape.specs.declared.Geometry.{Geometry}
use Rattle.shape.specs.Refusals.{library, shape_refusals, encode_refusal}
use Rattle.devices.specs.Refusals.{loss_refusals, unknown, unknown_lost, same_device, twice, rebuild_refusal}

pub known_of : (g : Geometry) (d : Device) → unknown g d ≡ false → Known g.n d
known_of g (Data k) e = leb-false g.n k e
known_of g P e = tt
known_of g Q e = tt

-- two devices that are not the same have two roles
different_roles : (n : ℕ) (d e : Device) → Known n d → Known n e → same_device d e ≡ false → role_of n d ≢ role_of n e
different_roles n (Data k) (Data j) hk hj s e = eqb-false k j s e
different_roles n (Data k) P hk he s e = omega arith
different_roles n (Data k) Q hk he s e = omega arith
different_roles n P (Data j) hd hj s e = omega arith
different_roles n P P hd he s e = true≢false s
different_roles n P Q hd he s e = omega arith
different_roles n Q (Data j) hd hj s e = omega arith
different_roles n Q P hd he s e = omega arith
different_roles n Q Q hd he s e = true≢false s

pub loss_known : (g : Geometry) (lost : Lost) → first_of (loss_refusals g lost) ≡ 0 → KnownLoss g.n lost
loss_known g lost e =
    let none = none_applies (loss_refusals g lost) refl e in sound lost none.0 none.1.0
  where
    sound : (l : Lost) → unknown_lost g l ≡ false → twice l ≡ false → KnownLoss g.n l
    sound (One d) u t = known_of g d u
    sound (Two d f) u t =
        let both = either_false (unknown g d) (unknown g f) u in
        let hd = known_of g d both.0 in
        let hf = known_of g f both.1 in
        (hd, hf, different_roles g.n d f hd hf t)

pub rebuild_accepted : (g : Geometry) (len : ℕ) (lost : Lost) → rebuild_refusal g len lost ≡ 0 → (encode_refusal g len ≡ 0) × KnownLoss g.n lost
rebuild_accepted g len lost e =
    let parts = first_none (shape_refusals library g len) (loss_refusals g lost) refl e in (parts.0, loss_known g lost parts.1)
