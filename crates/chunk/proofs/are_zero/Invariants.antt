-- `chunk::are_zero` meets its contract. The loop's invariant: r is 0 just where the places so far hold 0.
use mathlib.Core.Path.{◌≡◌}
use lib.Dec.{eqb}
use lib.ListN.{length}
use Rattle.chunk.specs.Chunk.{zeros}
use Rattle.chunk.proofs.are_zero.Given as goal

abbrev pub invariant-loop-x : goal.invariant-loop-x
invariant-loop-x l = (eqb l.r 0 ≡ zeros (length l.yielded) l.p l.q)
