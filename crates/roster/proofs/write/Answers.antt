-- `roster::write` meets its contract: the serials' fault is tested first and the room next, and then the text is put.
use Rattle.std.proofs.Common.{◌≡◌, Err}
use native.Mathlib.Omega.{arith}
use Rattle.std.proofs.lemmas.Grind.{common_steps}
use Rattle.lines.proofs.Faults.{not_zero}
use Rattle.roster.specs.declared.WriteError.TheVariants.{Faulty}
use Rattle.roster.proofs.Calls.{write_refused, text_length, write_no_room, write_done}
use Rattle.roster.proofs.write.Goals as goal

pub returns-in_err-length : goal.returns-in_err-length
returns-in_err-length c =
    let e = c.in_err-length.field-0.0 in
    let is : c.from_residual.result ≡ Err (Faulty e) = grind (arith, common_steps) in
    rw is (write_refused c.args.lent.now c.args.out.now c.in_err-length.ensures (not_zero e.fault))

pub returns-then-out-length : goal.returns-then-out-length
returns-then-out-length c =
    let a = c.args in
    write_no_room a.lent.now a.out.now c.in_ok-length.ensures c.if-out-length.true

pub put_all-requires : goal.put_all-requires
put_all-requires c =
    let a = c.args in
    omega (arith, text_length a.lent.now a.out.now c.in_ok-length.ensures)

pub returns : goal.returns
returns c =
    let a = c.args in
    write_done a.lent.now a.out.now c.in_ok-length.ensures c.if-out-length.false c.put_all.ensures
