-- `field_records::answer_all` meets its contract. The loop's invariant: the first 2k bytes are the answers to the first k records.
use Prim.Native.Nat.{◌*◌}
use lib.ListN.{length}
use Rattle.base.proofs.Fill.{Filled}
use Rattle.field_records.specs.Records.{placed}
use Rattle.field_records.proofs.answer_all.Given as goal

abbrev pub invariant-loop-k : goal.invariant-loop-k
invariant-loop-k l = Filled (placed l.initial.records) (length l.initial.records) l.initial.records l.records (2 * l.k)
