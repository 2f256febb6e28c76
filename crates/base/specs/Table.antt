-- Lists by their places.
use Rattle.std.specs.Prelude.{ℕ, zero, suc, ◌+◌, List, [], ◌∷◌, ◌++◌, length, take, drop}

-- the list of n numbers whose place k holds f k
unfoldable pub tabulate : ℕ → (ℕ → ℕ) → List ℕ
tabulate zero f = []
tabulate (suc n) f = f 0 ∷ tabulate n (λ k. f (suc k))

-- a list with m in the place of what stood from a on
abbrev pub spliced : List ℕ → ℕ → List ℕ → List ℕ
spliced l a m = take a l ++ (m ++ drop (a + length m) l)
