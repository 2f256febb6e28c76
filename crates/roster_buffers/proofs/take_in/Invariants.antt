-- `roster_buffers::take_in` meets its contract. The loop's invariant: the array holds what is kept of the bytes so far.
use mathlib.Core.Path.{◌≡◌}
use mathlib.Core.List.{◌++◌}
use lib.ListN.{length, take, drop}
use Rattle.roster_buffers.specs.Kept.{held_size, Holds}
use Rattle.roster_buffers.proofs.take_in.Given as goal

abbrev pub invariant-loop-c : goal.invariant-loop-c
invariant-loop-c l =
    (length l.held.bytes ≡ held_size)
    × Holds l.held.bytes l.held.count (take l.fn.held.count l.fn.held.bytes ++ take l.c-index l.more)
    × (drop l.held.count l.held.bytes ≡ drop l.held.count l.fn.held.bytes)
