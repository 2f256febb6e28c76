-- `sums::Columns::add_disks` meets its contract. The loop's invariant: the disks from k on are added, and `at` is column i of disk k's block.
use mathlib.Core.Path.{◌≡◌}
use Prim.Native.Nat.{◌+◌, ◌≤◌}
use Rattle.shape.specs.Layout.{start}
use Rattle.sums.specs.Sums.{DisksAdded}
use Rattle.sums.proofs.Columns.add_disks.Given as goal

abbrev pub invariant-loop-k : goal.invariant-loop-k
invariant-loop-k l = (l.from ≤ l.k) × (l.at ≡ start l.self.g l.k + l.self.i) × DisksAdded l.self.g l.self.i l.k l.to l.self.stripe.now l.initial.sums l.sums
