-- What a summary names: one device, or none.
use Rattle.std.specs.Prelude.{ℕ, ◌-◌, eqb, ltb, Option, Some, None}
use Rattle.base.specs.Choice.{choose}
use Rattle.column.specs.declared.Device.{Device}
use Rattle.column.specs.declared.Device.TheVariants.{Data, P, Q}

-- 1 for P, 2 for Q, 16 + z for data disk z; 0, 3 and 4 name none
abbrev pub faulty_of : ℕ → Option Device
faulty_of v = choose (eqb v 1) (Some P) (choose (eqb v 2) (Some Q) (choose (ltb v 16) None (Some (Data (v - 16)))))
