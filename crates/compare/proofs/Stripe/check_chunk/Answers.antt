-- `compare::Stripe::check_chunk` meets its contract: p and q hold P* and Q* of each column.
use mathlib.Core.Path.{ap, ap₂}
use native.Mathlib.Omega.{arith}
use lib.ListN.{length}
use Rattle.base.proofs.Table.{tabulate_same}
use Rattle.column.specs.Column.{syndrome_p, syndrome_q, reed_solomon, verdict_of}
use Rattle.stretch.specs.Stretch.{Has}
use Rattle.stretch.proofs.Laws.{seen}
use Rattle.chunk.specs.Chunk.{width}
use Rattle.chunk.specs.declared.Sums.{Sums}
use Rattle.verdict.proofs.Summary.{summary_as}
use Rattle.compare.proofs.Stripe.check_chunk.Goals as goal

pub returns : goal.returns
returns c =
    let a = c.args in
    let n = a.self.g.n in
    let h : Has a.self.g a.self.bytes.now a.i width = record { shaped = a.self.shaped; fits = c.requires.0; held = omega arith } in
    let sums = c.syndromes-s.ensures in
    summary_as
    (tabulate_same (length a.room.now)
    (λ j l. ap₂ (verdict_of n) (seen h (syndrome_p n) (ap (λ (r : Sums). r.p) sums) j (omega (arith, c.requires.1))) (seen h (syndrome_q reed_solomon n) (ap (λ (r : Sums). r.q) sums) j (omega (arith, c.requires.1)))))
    c.verdicts_of.ensures
