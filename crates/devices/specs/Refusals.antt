-- The refusals of a loss, and a rebuild's order. They depend on numbers, lengths and names alone.
use Rattle.std.specs.Prelude.{ℕ, Bool, true, false, List, [], ◌∷◌, eqb, leb}
use Rattle.base.specs.Choice.{either}
use Rattle.base.specs.Refusal.{Refusal, first_of}
use Rattle.column.specs.declared.Device.{Device}
use Rattle.column.specs.declared.Device.TheVariants.{Data, P, Q}
use Rattle.column.specs.declared.Lost.{Lost}
use Rattle.column.specs.declared.Lost.TheVariants.{One, Two}
use Rattle.shape.specs.declared.Geometry.{Geometry}
use Rattle.shape.specs.Refusals.{library, refusal1, refusal2, refusal3}

-- a device that the stripe lacks: a data disk number is n or more
abbrev pub unknown : Geometry → Device → Bool
unknown g (Data k) = leb g.n k
unknown g P = false
unknown g Q = false

abbrev pub unknown_lost : Geometry → Lost → Bool
unknown_lost g (One d) = unknown g d
unknown_lost g (Two d e) = either (unknown g d) (unknown g e)

abbrev pub refusal4 : Geometry → Lost → Refusal
refusal4 g lost = record { number = 4; applies = unknown_lost g lost }

-- the same device twice
abbrev pub same_device : Device → Device → Bool
same_device (Data k) (Data j) = eqb k j
same_device (Data k) P = false
same_device (Data k) Q = false
same_device P (Data j) = false
same_device P P = true
same_device P Q = false
same_device Q (Data j) = false
same_device Q P = false
same_device Q Q = true

abbrev pub twice : Lost → Bool
twice (One d) = false
twice (Two d e) = same_device d e

abbrev pub refusal5 : Lost → Refusal
refusal5 lost = record { number = 5; applies = twice lost }

abbrev pub loss_refusals : Geometry → Lost → List Refusal
loss_refusals g lost = refusal4 g lost ∷ refusal5 lost ∷ []

abbrev pub rebuild_refusal : Geometry → ℕ → Lost → ℕ
rebuild_refusal g len lost = first_of (refusal1 library g ∷ refusal2 library g ∷ refusal3 g len ∷ refusal4 g lost ∷ refusal5 lost ∷ [])
