-- `sums::Columns::add_pairs` meets its contract. The loop's invariant: m pairs are added, and `at` is column i of the block of the lowest disk that is.
use mathlib.Core.Path.{◌≡◌}
use Prim.Native.Nat.{◌+◌, ◌*◌, ◌-◌}
use Rattle.shape.specs.Layout.{start}
use Rattle.sums.specs.Sums.{DisksAdded}
use Rattle.sums.proofs.Columns.add_pairs.Given as goal

abbrev pub invariant-loop-m : goal.invariant-loop-m
invariant-loop-m l = let k = l.to - 2 * l.m in (l.at ≡ start l.self.g k + l.self.i) × DisksAdded l.self.g l.self.i k l.to l.self.stripe.now l.initial.sums l.sums
