-- `restore::set_solved` meets its contract: what is set on both roles is solved from P* and Q* without them.
use Rattle.restore.proofs.Laws.{set_solved}
use Rattle.restore.proofs.set_solved.Goals as goal

pub returns : goal.returns
returns c =
    let roles = c.requires.1 in
    let sums = c.requires.2 in
    set_solved c.requires.0 c.args.rule c.args.sums roles.0 roles.1 sums.first sums.second c.solve-new.ensures c.set.ensures c.set-2.ensures
