-- The laws of chunks that other crates cite: what stands at a place of a chunk, what a part that one is stored in becomes, and
-- what the test for zeros says of each place.
-- Assumes nothing.
use mathlib.Core.Path.{◌≡◌}
use mathlib.Core.List.{List}
use Prim.Native.Nat.{ℕ, ◌≤◌, ◌<◌}
use native.Mathlib.Omega.{arith}
use borrow.Author.Tests.{lt-ltb}
use lib.ListN.{length, get_or}
use Rattle.base.specs.Table.{tabulate}
use Rattle.base.proofs.Table.{get_d_tabulate, tabulate_same}
use Rattle.chunk.specs.Chunk.{width, each, stored}
pub use Rattle.chunk.proofs.Zeros.{or_zero, all_zero_at, zero_all}

pub each_at : (f : ℕ → ℕ) (j : ℕ) → j < width → get_or (each f) j 0 ≡ f j
each_at f j h = get_d_tabulate width f j 0 h

-- where a list has no more places than a chunk
pub stored_short : (to c : List ℕ) → length to ≤ width → stored to c ≡ tabulate (length to) (λ j. get_or c j 0)
stored_short to c short = tabulate_same (length to) (λ j l. rw (lt-ltb j width (omega arith)))
