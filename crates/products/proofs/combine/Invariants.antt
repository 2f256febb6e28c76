-- `products::combine` meets its contract. The loop's invariant: d is the sum of the products by the digits from k on.
use mathlib.Core.Path.{◌≡◌}
use Prim.Native.Nat.{ℕ, ◌/◌, ◌^◌, ◌<◌}
use lib.ListN.{length, get_or}
use Rattle.gf256.specs.Field.{sum, product}
use Rattle.chunk.specs.Chunk.{width}
use Rattle.products.proofs.combine.Given as goal

abbrev pub invariant-loop-k : goal.invariant-loop-k
invariant-loop-k l = (length l.d ≡ width)
    × ((j : ℕ) → j < width → get_or l.d j 0 ≡ sum (product (l.a.0 / 2 ^ l.k) (get_or l.p j 0)) (product (l.b.0 / 2 ^ l.k) (get_or l.q j 0)))
