-- `restore::set_from_data` meets its contract: the parities of the data, both or the second.
use mathlib.Core.Path.{ap, ap₂}
use Prim.Native.Nat.{ℕ, ◌+◌}
use native.Mathlib.Omega.{arith}
use Rattle.column.specs.Column.{put, parity_p, parity_q, reed_solomon}
use Rattle.shape.specs.Layout.{column}
use Rattle.shape.proofs.Columns.{columns_as}
use Rattle.stretch.proofs.Laws.{seen, set_columns, set_two}
use Rattle.chunk.specs.declared.Sums.{Sums}
use Rattle.restore.proofs.set_from_data.Goals as goal

pub returns-then-both : goal.returns-then-both
returns-then-both c =
    let a = c.args in
    let n = a.at.g.n in
    let h = c.requires.0 in
    rw c.if-both.true
    (columns_as (set_two h a.sums.p a.sums.q (omega arith) (omega arith) c.set.ensures c.set-then-both.ensures)
    (λ j l. ap₂ (λ (v w : ℕ). put n v (put (n + 1) w (column a.at.g a.stripe.now (a.at.i + j)))) (seen h (parity_p n) (ap (λ (r : Sums). r.p) c.requires.1) j l) (seen h (parity_q reed_solomon n) (ap (λ (r : Sums). r.q) c.requires.1) j l)))

pub returns-else-both : goal.returns-else-both
returns-else-both c =
    let a = c.args in
    let n = a.at.g.n in
    let h = c.requires.0 in
    rw c.if-both.false
    (columns_as (set_columns h (omega arith) a.sums.q c.set.ensures) (λ j l. ap (λ (w : ℕ). put (n + 1) w (column a.at.g a.stripe.now (a.at.i + j))) (seen h (parity_q reed_solomon n) (ap (λ (r : Sums). r.q) c.requires.1) j l)))
