-- The verdicts on the columns of a chunk.
use Rattle.std.specs.Prelude.{ℕ, List, eqb, get_or}
use Rattle.base.specs.Choice.{choose, both}
use Rattle.base.specs.Table.{tabulate}
use Rattle.column.specs.Column.{verdict_of}

-- the verdict on the column at place j, where p and q are P* and Q*; past the chunk both are 00
abbrev pub verdict_at : ℕ → List ℕ → List ℕ → ℕ → ℕ
verdict_at n p q j = verdict_of n (get_or p j 0) (get_or q j 0)

-- those of the first k places
abbrev pub verdicts_of : ℕ → List ℕ → List ℕ → ℕ → List ℕ
verdicts_of n p q k = tabulate k (verdict_at n p q)

-- what a private function of the code puts at place j: v where P* and Q* are not both 00
abbrev pub unclean : ℕ → List ℕ → List ℕ → ℕ → ℕ
unclean v p q j = choose (both (eqb (get_or q j 0) 0) (eqb (get_or p j 0) 0)) 0 v
