-- `gf256::power_of_two` meets its contract: the table holds the powers of 02.
use mathlib.Core.Path.{sym}
use Rattle.gf256.proofs.Tables.{powers}
use Rattle.gf256.proofs.Powers.{power_entry}
use Rattle.gf256.proofs.power_of_two.Goals as goal

pub returns : goal.returns
unfolding powers
returns c = sym (power_entry c.args.exponent c.requires)
