-- `sums::Columns::data_sums` meets its contract: the highest disk, and all disks below it.
use Rattle.sums.proofs.Runs.{all_added}
use Rattle.sums.proofs.Columns.data_sums.Goals as goal

pub returns : goal.returns
returns c = all_added c.args.self.has c.highest-sums.ensures c.add_pairs.ensures
