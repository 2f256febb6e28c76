-- `products::double` meets its contract. The loop's invariant: the places before that of v are doubled.
use Rattle.gf256.specs.Field.{double}
use Rattle.base.proofs.Fill.{Filled}
use Rattle.chunk.specs.Chunk.{width}
use Rattle.products.proofs.double.Given as goal

abbrev pub invariant-loop-v : goal.invariant-loop-v
invariant-loop-v l = Filled (λ j v. double v) width l.initial.x l.x l.v-index
