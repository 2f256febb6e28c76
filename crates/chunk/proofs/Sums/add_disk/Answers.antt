-- `chunk::Sums::add_disk` meets its contract.
use native.Mathlib.Omega.{arith}
use Rattle.base.proofs.Fill.{fill_all}
use Rattle.chunk.proofs.Sums.add_disk.Goals as goal

pub returns : goal.returns
returns c = (fill_all c.loop-i.invariant.0 (omega arith), fill_all c.loop-i.invariant.1 (omega arith))
