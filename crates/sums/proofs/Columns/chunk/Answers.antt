-- `sums::Columns::chunk` meets its contract.
use mathlib.Core.Path.{sym, ap, ◌∙◌}
use Prim.Native.Nat.{ℕ}
use native.Mathlib.Omega.{arith}
use lib.ListN.{get_or}
use Rattle.base.proofs.Table.{tabulate_same}
use Rattle.chunk.specs.Chunk.{width}
use Rattle.column.specs.Column.{Column}
use Rattle.stretch.proofs.Laws.{column_of_lem}
use Rattle.sums.proofs.Columns.chunk.Goals as goal

pub returns : goal.returns
returns c =
    let h = c.args.self.has in
    c.load.ensures
    ∙ tabulate_same width
    (λ j l.
    ap (λ (a : ℕ). get_or c.args.self.stripe.now a 0) (omega (arith, c.place.ensures))
    ∙ sym (ap (λ (e : Column). e c.args.role) (column_of_lem h j l)))
