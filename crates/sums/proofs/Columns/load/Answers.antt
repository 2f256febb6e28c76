-- `sums::Columns::load` meets its contract.
use mathlib.Core.Path.{◌∙◌}
use Prim.Native.Nat.{◌+◌}
use native.Mathlib.Omega.{arith}
use Rattle.base.proofs.Table.{tabulate_same}
use Rattle.base.proofs.Tails.{part_place}
use Rattle.chunk.specs.Chunk.{width}
use Rattle.sums.proofs.Columns.load.Goals as goal

pub returns : goal.returns
returns c = let at = c.args.at in c.load.ensures ∙ tabulate_same width (λ j l. part_place c.args.self.stripe.now at (at + width) j (omega arith))
