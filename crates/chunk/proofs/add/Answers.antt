-- `chunk::add` meets its contract.
use native.Mathlib.Omega.{arith}
use Rattle.base.proofs.Fill.{fill_all}
use Rattle.chunk.proofs.add.Goals as goal

pub returns : goal.returns
returns c = fill_all c.loop-j.invariant (omega arith)
