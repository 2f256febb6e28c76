-- `gf256::exponent_of` meets its contract: the table holds the exponents.
use mathlib.Core.Path.{subst}
use Prim.Native.Nat.{ℕ, ◌-◌}
use native.Mathlib.Omega.{arith}
use lib.ListN.{get_or}
use Rattle.gf256.specs.Field.{ExponentOf}
use Rattle.gf256.proofs.Tables.{logarithms}
use Rattle.gf256.proofs.Powers.{exponent_entry}
use Rattle.gf256.proofs.exponent_of.Goals as goal

pub returns : goal.returns
unfolding logarithms
returns c =
    let x = c.args.x.0 in
    subst (λ (y : ℕ). ExponentOf y (get_or logarithms (x - 1) 0)) (omega arith) (exponent_entry (x - 1) (omega arith))
