-- `sums::Columns::highest` meets its contract.
use Rattle.chunk.proofs.Bytes.{bytes}
use Rattle.sums.proofs.Runs.{highest_added}
use Rattle.sums.proofs.Columns.highest.Goals as goal

pub returns : goal.returns
returns c =
    let d = c.chunk-d in
    highest_added d.result c.args.self.has d.ensures (bytes d.result d.type_inv.0 d.type_inv.1.1) c.add_disk.ensures.0 c.add_disk.ensures.1
