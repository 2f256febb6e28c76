-- `products::add_bits` meets its contract. The loop's invariant: the places below j are doubled, with the bits' parts.
use lib.ListN.{get_or}
use Rattle.gf256.specs.Field.{double}
use Rattle.base.proofs.Fill.{Filled}
use Rattle.chunk.specs.Chunk.{width}
use Rattle.products.specs.Products.{plus_bit}
use Rattle.products.proofs.add_bits.Given as goal

abbrev pub invariant-loop-j : goal.invariant-loop-j
invariant-loop-j l = Filled (λ j v. plus_bit (plus_bit (double v) l.m (get_or l.x j 0)) l.n (get_or l.y j 0)) width l.initial.d l.d l.j
