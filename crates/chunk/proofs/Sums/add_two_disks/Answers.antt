-- `chunk::Sums::add_two_disks` meets its contract.
use mathlib.Core.Path.{refl, sym, ap, ap₂, ◌∙◌}
use native.Mathlib.Omega.{arith}
use Rattle.gf256.specs.Field.{sum, double}
use Rattle.base.proofs.Fill.{fill_all}
use Rattle.base.proofs.Table.{tabulate_same}
use Rattle.chunk.specs.Chunk.{width}
use Rattle.chunk.proofs.Laws.{each_at}
use Rattle.chunk.proofs.Sums.add_two_disks.Goals as goal

pub returns : goal.returns
returns c =
    let l = c.loop-j in (
      fill_all l.invariant.0 (omega arith) ∙ tabulate_same width (λ j h. ap₂ sum (sym (each_at _ j h)) refl),
      fill_all l.invariant.1 (omega arith) ∙ tabulate_same width (λ j h. ap₂ sum (ap double (sym (each_at _ j h))) refl),
    )
