-- `restore::restore_by_p` meets its contract: role x gets the sum of the data and P without it.
use mathlib.Core.Path.{ap}
use Prim.Native.Nat.{ℕ, ◌+◌}
use Rattle.column.specs.Column.{put}
use Rattle.losses.specs.Losses.{by_p}
use Rattle.shape.specs.Layout.{column}
use Rattle.shape.proofs.Columns.{columns_as}
use Rattle.stretch.proofs.Laws.{seen, set_columns}
use Rattle.restore.proofs.restore_by_p.Goals as goal

pub returns : goal.returns
returns c =
    let a = c.args in
    let h = c.requires.0 in
    columns_as (set_columns h c.requires.1 c.sum_without-p.result c.set.ensures) (λ j l. ap (λ (v : ℕ). put a.x v (column a.at.g a.stripe.now (a.at.i + j))) (seen h (by_p a.at.g.n a.x) c.sum_without-p.ensures j l))
