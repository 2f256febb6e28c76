-- `sums::Columns::add_above` meets its contract: the disks above the lost one, and a step in which it is 00.
use native.Mathlib.Omega.{arith}
use Rattle.sums.proofs.Horner.{tails_zero}
use Rattle.sums.proofs.Columns.add_above.Goals as goal

pub returns : goal.returns
returns c =
    record {
      below = omega arith;
      within = omega arith;
      above = λ k l h. omega arith;
      sums = λ f agrees zero tails. tails_zero c.args.self.g.n f (omega arith) (c.add_disks.ensures f agrees tails) zero c.double.ensures;
    }
