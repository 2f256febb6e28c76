-- `sums::place` meets its contract.
use native.Mathlib.Omega.{arith}
use Rattle.stretch.proofs.Laws.{ends, there}
use Rattle.sums.proofs.place.Goals as goal

pub overflow_add-result : goal.overflow_add-result
overflow_add-result c = omega (arith, ends c.requires.0 c.requires.1 c.start.ensures)

pub returns : goal.returns
returns c = there c.requires.0 c.requires.1 c.start.ensures
