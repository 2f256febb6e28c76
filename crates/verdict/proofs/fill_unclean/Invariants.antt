-- `verdict::fill_unclean` meets its contract. The loop's invariant: the places below j are filled.
use Rattle.base.proofs.Fill.{Filled}
use Rattle.chunk.specs.Chunk.{width}
use Rattle.verdict.specs.Verdicts.{unclean}
use Rattle.verdict.proofs.fill_unclean.Given as goal

abbrev pub invariant-loop-j : goal.invariant-loop-j
invariant-loop-j l = Filled (λ k old. unclean l.v l.sums.p l.sums.q k) width l.initial.room l.room l.j
