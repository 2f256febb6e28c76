-- `restore::restore_by` meets its contract.
use native.Mathlib.Omega.{arith}
use Rattle.restore.proofs.Laws.{begun_none, begun_count, begun_step, begun_all}
use Rattle.restore.proofs.restore_by.Goals as goal

pub loop-done-init : goal.loop-done-init
loop-done-init g c = begun_count (omega arith) begun_none

pub loop-done-preserved : goal.loop-done-preserved
loop-done-preserved g c = rw c.COLUMNS-done-step.ensures (begun_step _ c.requires.1 (rw c.COLUMNS.ensures at c.next_start-i.ensures) c.loop-done.invariant c.restore.ensures)

pub returns : goal.returns
returns g c = begun_all c.requires.0 (omega arith) c.loop-done.invariant

pub returns-2 : goal.returns-2
returns-2 g c =
    begun_all c.requires.0 (omega (arith, c.COLUMNS-done-step.ensures))
    (begun_step _ c.requires.1 (rw c.COLUMNS.ensures at c.next_start-i.ensures) c.loop-done.invariant c.restore.ensures)
