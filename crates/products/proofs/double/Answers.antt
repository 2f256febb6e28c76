-- `products::double` meets its contract.
use native.Mathlib.Omega.{arith}
use Rattle.base.proofs.Fill.{fill_all}
use Rattle.products.proofs.double.Goals as goal

pub returns : goal.returns
returns c = fill_all c.loop-v.invariant (omega arith)
