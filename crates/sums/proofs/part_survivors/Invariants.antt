-- `sums::part_survivors` meets its contract. The loop's invariant: the disks from k on are added, lost ones as 00.
use Rattle.losses.specs.Losses.{without}
use Rattle.stretch.specs.Stretch.{column_of}
use Rattle.sums.specs.Sums.{Tails}
use Rattle.sums.proofs.part_survivors.Given as goal

abbrev pub invariant-loop-k : goal.invariant-loop-k
invariant-loop-k l = Tails l.at.g.n l.k (λ j. without l.pair.x l.pair.y (column_of l.at.g l.stripe l.at.i l.at.w j)) l.sums
