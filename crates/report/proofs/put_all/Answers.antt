-- `report::put_all` meets its contract.
use Rattle.std.proofs.Common.{◌+◌, ◌-◌, ◌*◌, refl, ap₂, ◌∙◌, arith}
use borrow.Rule.Slice.PartMut.{put_mid}
use Rattle.header.specs.Fields.{fields}
use Rattle.header.proofs.Fielded.{fields_more, fields_all}
use Rattle.report.proofs.put_all.Goals as goal

pub loop-i-init : goal.loop-i-init
unfolding fields
loop-i-init c = refl

pub loop-i-preserved : goal.loop-i-preserved
loop-i-preserved c =
    let l = c.loop-i in
    ap₂ (put_mid (2 * l.i) (2 * l.i + 2 - 2 * l.i)) l.invariant (c.copy_from_slice.ensures.after ∙ c.big_endian.ensures)
    ∙ fields_more c.args.values.now c.args.out.now l.i (2 * l.i + 2 - 2 * l.i) (omega arith) (omega arith)

pub returns : goal.returns
returns c = c.loop-i.invariant ∙ fields_all c.args.values.now c.args.out.now c.loop-i.i (omega arith) c.requires
