-- `sums::add_to_strip` meets its contract. The loop's invariant: in the first m chunks the group is added.
use Prim.Native.Nat.{ℕ}
use Rattle.column.specs.Column.{Column}
use Rattle.sums.specs.Strip.{strip_columns, staged}
use Rattle.sums.proofs.Strips.{Changed}
use Rattle.sums.proofs.add_to_strip.Given as goal

abbrev pub invariant-loop-m : goal.invariant-loop-m
invariant-loop-m l =
    let f : ℕ → ℕ → Column = strip_columns l.g l.stripe l.i l.pair.x l.pair.y in
    Changed (λ k. staged l.g.n l.to (f k)) (λ k. staged l.g.n l.from (f k)) l.strip l.m
