-- What a device code names: none just where it is 65535.
-- Assumes nothing.
use mathlib.Core.Path.{◌≡◌, refl}
use mathlib.Core.Bool.{Bool, true, false}
use Prim.Native.Nat.{ℕ}
use native.Mathlib.Decide.{ℕ_discrete}
use borrow.Author.Tests.{ne_eqb}
use lib.Dec.{eqb, ltb}
use Rattle.base.specs.Choice.{choose}
use Rattle.column.specs.declared.Device.TheVariants.{Data, P, Q}
use Rattle.devices.specs.declared.Named.TheVariants.{Device, Nothing, Meaningless}
use Rattle.devices.specs.Codes.{named_by, is_none}

pub is_none_lem : (code : ℕ) → is_none (named_by code) ≡ eqb code 65535
unfolding named_by
is_none_lem code = at (ℕ_discrete code 65535)
  where
    go : (d p q : Bool) → is_none (choose d (Device (Data code)) (choose p (Device P) (choose q (Device Q) Meaningless))) ≡ false
    go true p q = refl
    go false true q = refl
    go false false true = refl
    go false false false = refl

    at : Dec (code ≡ 65535)
        → is_none
        (choose (ltb code 255) (Device (Data code)) (choose (eqb code 256) (Device P) (choose (eqb code 257) (Device Q) (choose (eqb code 65535) Nothing Meaningless))))
        ≡ eqb code 65535
    at (yes e) = rw e
    at (no n) = rw (ne_eqb code 65535 n) (go (ltb code 255) (eqb code 256) (eqb code 257))
