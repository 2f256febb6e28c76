-- `sums::Columns::add_disks` meets its contract.
use Prim.Native.Nat.{◌-◌}
use native.Mathlib.Omega.{arith}
use Rattle.sums.proofs.Runs.{placed, inside, below, disk_added}
use Rattle.chunk.proofs.Bytes.{bytes}
use Rattle.sums.proofs.Columns.add_disks.Goals as goal

pub overflow_add-at : goal.overflow_add-at
overflow_add-at c = omega (arith, inside c.args.self.has c.args.to (omega arith) (placed c.args.self.has c.args.to (omega arith) c.start.ensures))

pub load-d-requires : goal.load-d-requires
load-d-requires c =
    let l = c.loop-k in
    inside c.args.self.has (l.k - 1) (omega arith) (below c.args.self.has (omega arith) (l.k - 1) (omega arith) (omega arith) l.invariant.1 c.role_before-at.ensures)

pub loop-k-preserved : goal.loop-k-preserved
loop-k-preserved c =
    let a = c.args in
    let l = c.loop-k in
    let d = c.load-d in
    let at = (let l = c.loop-k in below c.args.self.has (omega arith) (l.k - 1) (omega arith) (omega arith) l.invariant.1 c.role_before-at.ensures) in (
      omega arith,
      at,
      disk_added a.self.g a.self.stripe.now a.self.i d.result (omega arith) (omega arith) (omega arith) l.invariant.2 at d.ensures
          (bytes d.result d.type_inv.0 d.type_inv.1.1)
          c.add_disk.ensures.0
          c.add_disk.ensures.1,
    )
