-- `sums::set_sums` meets its contract: two roles are set, Q first.
use native.Mathlib.Omega.{arith}
use Rattle.stretch.proofs.Laws.{set_two}
use Rattle.sums.proofs.set_sums.Goals as goal

pub returns : goal.returns
returns c = set_two c.requires c.args.sums.p c.args.sums.q (omega arith) (omega arith) c.set_chunk.ensures c.set_chunk-2.ensures
