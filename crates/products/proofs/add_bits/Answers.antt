-- `products::add_bits` meets its contract.
use native.Mathlib.Omega.{arith}
use Rattle.base.proofs.Fill.{fill_all}
use Rattle.products.proofs.add_bits.Goals as goal

pub returns : goal.returns
returns c = fill_all c.loop-j.invariant (omega arith)
