-- `sums::set_chunk` meets its contract: what lies in the buffer is lent as a part, and what lies around it stays.
use Prim.Native.Nat.{◌+◌}
use native.Mathlib.Omega.{arith}
use borrow.Rule.Slice.PartMut.{Post-is}
use Rattle.chunk.specs.Chunk.{width}
use Rattle.stretch.proofs.Laws.{set_there}
use Rattle.sums.proofs.set_chunk.Goals as goal

pub returns : goal.returns
returns c =
    let a = c.args in
    let at = c.place-at.result in
    set_there c.place-at.ensures a.new c.store.ensures (Post-is at (at + width) a.stripe.now (omega arith))
