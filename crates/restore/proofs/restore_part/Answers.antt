-- `restore::restore_part` meets its contract: its columns are those of one chunk, and all of the stripe.
use Rattle.shape.proofs.Columns.{columns_all}
use Rattle.restore.proofs.restore_part.Goals as goal

pub returns-in-ByP : goal.returns-in-ByP
returns-in-ByP c = rw c.in-ByP.is (columns_all c.requires.0.shaped c.restore_by_p.ensures)

pub returns-in-FromData : goal.returns-in-FromData
returns-in-FromData c = rw c.in-FromData.is (columns_all c.requires.0.shaped c.part_from_data.ensures)

pub returns-in-ByBoth : goal.returns-in-ByBoth
returns-in-ByBoth c = rw c.in-ByBoth.is (columns_all c.requires.0.shaped c.part_by_both.ensures)
