-- What a write makes of P and Q, chunk by chunk.
use Rattle.std.specs.Prelude.{ℕ, List, get_or}
use Rattle.gf256.specs.Field.{sum, product}
use Rattle.chunk.specs.Chunk.{each}
use Rattle.chunk.specs.declared.Sums.{Sums}

-- P and Q of a chunk, place by place, after the bytes of a disk with the coefficient c change from old to new
abbrev pub changed_by : ℕ → List ℕ → List ℕ → Sums → Sums
changed_by c old new s =
    record {
      p = each (λ j. sum (get_or s.p j 0) (sum (get_or old j 0) (get_or new j 0)));
      q = each (λ j. sum (get_or s.q j 0) (product c (sum (get_or old j 0) (get_or new j 0))));
    }
