-- `write::write_all` meets its contract.
use Rattle.std.proofs.Common.{◌+◌, ◌*◌, ◌/◌, length, arith}
use Rattle.chunk.specs.Chunk.{width}
use Rattle.shape.proofs.Columns.{columns_count}
use Rattle.write.proofs.Written.{written_more}
use Rattle.write.proofs.write_all.Goals as goal

pub loop-k-preserved : goal.loop-k-preserved
loop-k-preserved c =
    let a = c.args in
    let l = c.loop-k in
    (l.invariant.0, columns_count (omega arith) (written_more a.g a.disk a.offset a.new.now (width * l.k + width) (omega arith) (omega arith) c.requires.1 l.invariant.1 c.write_columns.ensures))

pub returns-then-j-new : goal.returns-then-j-new
returns-then-j-new c =
    let a = c.args in
    written_more a.g a.disk a.offset a.new.now {j = width * (length a.new.now / width)} (length a.new.now) (omega arith) (omega arith) c.requires.1 (columns_count (omega arith) c.loop-k.invariant.1) c.write_columns-then-j-new.ensures

pub returns-else-j-new : goal.returns-else-j-new
returns-else-j-new c = let l = c.loop-k in columns_count (omega arith) l.invariant.1
