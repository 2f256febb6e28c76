-- The plan of a loss: which roles are restored, and by which rule. Equations are numbered as in the paper.
use Rattle.std.specs.Prelude.{ℕ, ◌+◌, true, false, eqb, Result, Ok, Err}
use Rattle.base.specs.Choice.{choose}
use Rattle.gf256.specs.Field.{element, power}
use Rattle.column.specs.declared.Device.{Device}
use Rattle.column.specs.declared.Device.TheVariants.{Data, P, Q}
use Rattle.column.specs.declared.Lost.{Lost}
use Rattle.column.specs.declared.Lost.TheVariants.{One, Two}
use Rattle.column.specs.Column.{over_power, coefficients}
use Rattle.shape.specs.declared.Geometry.{Geometry}
use Rattle.devices.specs.Refusals.{rebuild_refusal}
use Rattle.losses.specs.declared.Rule.{Rule}
use Rattle.losses.specs.declared.Rule.TheVariants.{Mixed, Carried}
use Rattle.losses.specs.declared.Plan.{Plan}
use Rattle.losses.specs.declared.Plan.TheVariants.{ByP, FromData, ByBoth}

-- equations 17 to 20
abbrev pub mixed : ℕ → ℕ → Rule
mixed x y = Mixed (element (coefficients x y).first) (element (coefficients x y).second)

-- one device: by equation 1, and Q by equation 2
abbrev pub alone : ℕ → Device → Plan
alone n (Data x) = ByP x
alone n P = ByP n
alone n Q = FromData false

-- data disk x and another device
abbrev pub with_data : ℕ → ℕ → Device → Plan
with_data n x (Data y) = ByBoth (record { x = x; y = y }) (mixed x y)
with_data n x P = ByBoth (record { x = x; y = n }) (Mixed (element 0) (element (over_power x)))
with_data n x Q = ByBoth (record { x = x; y = n + 1 }) (Carried (element (power 2 x)))

abbrev pub plan_of : ℕ → Lost → Plan
plan_of n (One d) = alone n d
plan_of n (Two (Data x) e) = with_data n x e
plan_of n (Two P (Data x)) = with_data n x P
plan_of n (Two P P) = alone n P
plan_of n (Two P Q) = FromData true
plan_of n (Two Q (Data x)) = with_data n x Q
plan_of n (Two Q P) = FromData true
plan_of n (Two Q Q) = alone n Q

-- what a rebuild asks for: its refusal's number, or else the plan of its loss
abbrev pub asked_of : Geometry → ℕ → Lost → Result Plan ℕ
asked_of g len lost = choose (eqb (rebuild_refusal g len lost) 0) (Ok (plan_of g.n lost)) (Err (rebuild_refusal g len lost))
