-- `verdict::one_by_one` meets its contract. The loop's invariant: the places below j hold their verdicts, and `found` is their
-- summary.
use lib.ListN.{length}
use Rattle.verdict.specs.Verdicts.{verdict_at}
use Rattle.verdict.proofs.Summary.{FilledWithSummary}
use Rattle.verdict.proofs.one_by_one.Given as goal

abbrev pub invariant-loop-j : goal.invariant-loop-j
invariant-loop-j l = FilledWithSummary (verdict_at l.n l.sums.p l.sums.q) (length l.initial.room) l.initial.room l.room l.j l.found
