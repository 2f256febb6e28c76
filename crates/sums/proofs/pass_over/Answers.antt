-- `sums::pass_over` meets its contract.
use native.Mathlib.Omega.{arith}
use Rattle.sums.proofs.Passes.{page_next}
use Rattle.sums.proofs.pass_over.Goals as goal

pub loop-m-preserved : goal.loop-m-preserved
loop-m-preserved g c = page_next c.requires.1 c.loop-m.invariant (omega arith) c.chunk.ensures
