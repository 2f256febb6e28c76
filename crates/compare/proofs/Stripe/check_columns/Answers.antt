-- `compare::Stripe::check_columns` meets its contract.
use Prim.Native.Nat.{◌+◌, ◌*◌, ◌-◌, ◌/◌, ◌≤◌}
use native.Mathlib.Omega.{arith}
use Rattle.chunk.specs.Chunk.{width}
use Rattle.compare.proofs.CheckedBelow.{room_fits, checked_none, checked_count, checked_more, checked_all}
use Rattle.compare.proofs.Stripe.check_columns.Goals as goal

pub loop-m-init : goal.loop-m-init
loop-m-init c = checked_none c.requires

pub loop-m-preserved : goal.loop-m-preserved
loop-m-preserved c =
    let i = width * c.loop-m.m in
    let fits : i + width ≤ c.args.self.g.b = omega (arith, c.loop-m-test) in
    let room = room_fits c.args.keep c.requires i width (omega arith) fits in
    checked_count (omega arith) (checked_more i width c.loop-m.invariant (omega arith) (omega arith) fits c.place-at.ensures (omega (arith, room)) c.check_chunk-next.ensures c.joined-found.ensures)

pub returns-then-i-self : goal.returns-then-i-self
returns-then-i-self c =
    let i = width * (c.args.self.g.b / width) in
    let rest = c.args.self.g.b - i in
    let room = room_fits c.args.keep c.requires i rest (omega arith) (omega arith) in
    checked_all (checked_more i rest (checked_count {k = i} (omega arith) c.loop-m.invariant) (omega arith) (omega arith) (omega arith) c.place-at-then-i-self.ensures (omega (arith, room)) c.check_part.ensures c.joined-found-then-i-self.ensures) (omega arith)

pub returns-else-i-self : goal.returns-else-i-self
returns-else-i-self c = checked_all c.loop-m.invariant (omega arith)
