-- `field_records::answer_all` meets its contract.
use Prim.Native.Nat.{ℕ, ◌+◌, ◌*◌}
use mathlib.Core.Path.{ap, ◌∙◌}
use native.Mathlib.Omega.{arith}
use lib.ListN.{get_or, drop}
use lib.Seq.{drop-drop}
use Rattle.field_records.specs.Records.{answer}
use Rattle.field_records.proofs.Records.{answered_more, answered_all}
use Rattle.field_records.proofs.answer_all.Goals as goal

pub loop-k-preserved : goal.loop-k-preserved
loop-k-preserved c =
    let l = c.loop-k in
    answered_more c.args.records.now l.records l.k l.invariant (omega arith)
    (c.answer_one-answer.ensures ∙ ap (answer (get_or l.records (10 * l.k) 0) (get_or l.records (10 * l.k + 1) 0)) c.number.ensures)
    (c.copy_from_slice.ensures.after ∙ c.bytes_of.ensures)
    (drop-drop _ (2 * l.k) l.records ∙ ap (λ (n : ℕ). drop n l.records) (omega arith))

pub returns : goal.returns
returns c =
    let l = c.loop-k in
    record { count = omega arith; bytes = answered_all c.args.records.now l.records l.k l.invariant (omega arith) }
