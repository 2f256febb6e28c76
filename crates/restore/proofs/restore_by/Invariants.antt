-- `restore::restore_by` meets its contract. The loop's invariant: the columns below `done` are restored. The last step may pass the end.
use Prim.Native.Nat.{min}
use Rattle.restore.proofs.Laws.{Begun}
use Rattle.restore.proofs.restore_by.Given as goal

abbrev pub invariant-loop-done : goal.invariant-loop-done
invariant-loop-done g l = Begun l.g (g.S.Step.plan l.step) (min l.done l.g.b) l.initial.stripe l.stripe
