-- The device codes of the job and of the C side: 0 to 254 data, 256 P, 257 Q, 65535 none. A rebuild wants a first device; a second
-- of none means one lost.
use Rattle.std.specs.Prelude.{ℕ, Bool, true, false, [], ◌∷◌, eqb, ltb, Option, Some, None}
use Rattle.base.specs.Choice.{choose, both}
use Rattle.base.specs.Refusal.{first_of}
use Rattle.column.specs.declared.Device.TheVariants.{Data, P, Q}
use Rattle.column.specs.declared.Lost.{Lost}
use Rattle.column.specs.declared.Lost.TheVariants.{One, Two}
use Rattle.shape.specs.declared.Geometry.{Geometry}
use Rattle.devices.specs.declared.Named.{Named}
use Rattle.devices.specs.declared.Named.TheVariants.{Device, Nothing, Meaningless}
use Rattle.shape.specs.Refusals.{library, refusal1, refusal2, refusal3}
use Rattle.devices.specs.Refusals.{unknown_lost, twice}

unfoldable pub named_by : ℕ → Named
named_by code =
    choose (ltb code 255) (Device (Data code))
    (choose (eqb code 256) (Device P) (choose (eqb code 257) (Device Q) (choose (eqb code 65535) Nothing Meaningless)))

abbrev pub loss_of : Named → Named → Option Lost
loss_of (Device d) (Device e) = Some (Two d e)
loss_of (Device d) Nothing = Some (One d)
loss_of (Device d) Meaningless = None
loss_of Nothing second = None
loss_of Meaningless second = None

abbrev pub naming_of : ℕ → ℕ → Option Lost
naming_of first second = loss_of (named_by first) (named_by second)

-- codes that name no loss, or one of a device that the stripe lacks
abbrev pub misnamed : Geometry → Option Lost → Bool
misnamed g (Some lost) = unknown_lost g lost
misnamed g None = true

abbrev pub named_twice : Option Lost → Bool
named_twice (Some lost) = twice lost
named_twice None = false

-- Rebuild by codes has rebuild's order.
abbrev pub named_refusal : Geometry → ℕ → Option Lost → ℕ
named_refusal g len naming =
    first_of
    (refusal1 library g
    ∷ refusal2 library g
    ∷ refusal3 g len
    ∷ record { number = 4; applies = misnamed g naming }
    ∷ record { number = 5; applies = named_twice naming }
    ∷ [])

-- whether two codes that may name devices name none
abbrev pub is_none : Named → Bool
is_none (Device d) = false
is_none Nothing = true
is_none Meaningless = false

abbrev pub no_devices : Named → Named → Bool
no_devices first second = both (is_none first) (is_none second)
