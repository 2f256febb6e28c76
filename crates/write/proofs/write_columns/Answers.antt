-- `write::write_columns` meets its contract: what is stored is the write in each column.
use Rattle.write.proofs.Written.{written_is}
use Rattle.write.proofs.write_columns.Goals as goal

pub returns : goal.returns
returns c = written_is c.args.new.now c.requires.0 c.requires.1 c.requires.2 c.load-old.ensures c.load-p.ensures c.load-q.ensures c.load-new.ensures c.changed-after.ensures c.set.ensures c.set-2.ensures c.set-3.ensures
