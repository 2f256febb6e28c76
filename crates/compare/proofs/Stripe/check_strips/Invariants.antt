-- `compare::Stripe::check_strips` meets its contract. The loop's invariant: found is the summary of the verdicts below `done`, and they are given, if they are
-- kept. The last strip may pass the end.
use Prim.Native.Nat.{min}
use Rattle.compare.proofs.CheckedBelow.{CheckedBelow}
use Rattle.compare.proofs.Stripe.check_strips.Given as goal

abbrev pub invariant-loop-done : goal.invariant-loop-done
invariant-loop-done l = CheckedBelow l.self.g l.self.bytes.now l.keep l.initial.room l.room (min l.done l.self.g.b) l.found
