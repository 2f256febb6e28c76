-- `sums::set_parities` meets its contract. The loop's invariant: the first m pages are encoded.
use Prim.Native.Nat.{◌*◌}
use Rattle.column.specs.Column.{encode_column, reed_solomon}
use Rattle.shape.specs.Columns.{ColumnsMapped}
use Rattle.sums.specs.Passes.{page}
use Rattle.sums.proofs.set_parities.Given as goal

abbrev pub invariant-loop-m : goal.invariant-loop-m
invariant-loop-m l = ColumnsMapped l.g 0 (page * l.m) (λ j c. encode_column reed_solomon l.g.n c) l.initial.stripe l.stripe
