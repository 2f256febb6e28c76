-- `restore::part_by_both` meets its contract.
use Rattle.restore.proofs.Laws.{survivors_seen}
use Rattle.restore.proofs.part_by_both.Goals as goal

pub set_solved-requires : goal.set_solved-requires
set_solved-requires c = (c.requires.0, c.requires.1, survivors_seen c.requires.0 c.part_survivors-sums.ensures)
