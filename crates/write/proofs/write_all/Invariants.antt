-- `write::write_all` meets its contract. The loop's invariant: the columns of the first k chunks are written.
use Rattle.std.proofs.Common.{◌≡◌, ◌*◌, get_or}
use Rattle.gf256.specs.Field.{power}
use Rattle.chunk.specs.Chunk.{width}
use Rattle.column.specs.Column.{reed_solomon, write_column}
use Rattle.shape.specs.Columns.{ColumnsMapped}
use Rattle.write.proofs.write_all.Given as goal

abbrev pub invariant-loop-k : goal.invariant-loop-k
invariant-loop-k l = (l.c.0 ≡ power 2 l.disk) × ColumnsMapped l.g l.offset (width * l.k) (λ j col. write_column reed_solomon l.g.n l.disk (get_or l.new j 0) col) l.initial.stripe l.stripe
