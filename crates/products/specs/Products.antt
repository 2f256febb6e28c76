-- Products of chunks with elements, place by place.
use Rattle.std.specs.Prelude.{ℕ, ◌%◌, List, eqb, get_or}
use Rattle.base.specs.Choice.{choose}
use Rattle.gf256.specs.Field.{sum, product}
use Rattle.chunk.specs.Chunk.{each}

abbrev pub plus_product : List ℕ → ℕ → List ℕ → List ℕ
plus_product a c x = each (λ j. sum (get_or a j 0) (product c (get_or x j 0)))

-- a + x where the lowest bit of m is one
abbrev pub plus_bit : ℕ → ℕ → ℕ → ℕ
plus_bit a m x = choose (eqb (m % 2) 1) (sum a x) a

abbrev pub combined : ℕ → List ℕ → ℕ → List ℕ → List ℕ
combined a p b q = each (λ j. sum (product a (get_or p j 0)) (product b (get_or q j 0)))
