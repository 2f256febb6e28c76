-- `products::add_product` meets its contract. The loop's invariant: at every place a + c x is what it was. The measure is c.
use mathlib.Core.Path.{◌≡◌}
use Prim.Native.Nat.{ℕ, ◌<◌}
use lib.ListN.{length, get_or}
use Rattle.gf256.specs.Field.{sum, product}
use Rattle.chunk.specs.Chunk.{width}
use Rattle.products.proofs.add_product.Given as goal

abbrev pub invariant-loop-c : goal.invariant-loop-c
invariant-loop-c l = (l.c < 256)
    × (length l.a ≡ width)
    × ((j : ℕ) → j < width → get_or l.x j 0 < 256)
    × ((j : ℕ) → j < width → sum (get_or l.a j 0) (product l.c (get_or l.x j 0)) ≡ sum (get_or l.initial.a j 0) (product l.initial.c (get_or l.initial.x j 0)))

abbrev pub decreases-loop-c : goal.decreases-loop-c
decreases-loop-c l = l.c
