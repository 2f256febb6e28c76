-- A serial is not found by its beginning: "1" does not find "11", nor "11" "1". Both follow from the law, since their lengths differ.
-- Assumes nothing.
use mathlib.Core.Path.{◌≡◌}
use mathlib.Core.Logic.{◌≢◌}
use mathlib.Core.List.{List, [], ◌∷◌}
use Prim.Native.Nat.{ℕ, zero, suc, ◌<◌}
use native.Mathlib.Omega.{arith}
use lib.ListN.{length, get_or}
use Rattle.std.specs.Prelude.{None}
use Rattle.serials.specs.Bytes.{bytes}
use Rattle.serials.specs.LookUp.{look_up}
use Rattle.serials.proofs.LookUp.{other_length}

-- of one slot
by_length : (s asked : List ℕ) → length s ≢ length asked → look_up (s ∷ []) asked ≡ None
by_length s asked n = other_length (s ∷ []) asked only
  where
    only : (j : ℕ) → j < 1 → length (get_or (s ∷ []) j []) ≢ length asked
    only zero h = n
    only (suc j) h = absurd (omega arith)

pub one_for_eleven : look_up (bytes "11" ∷ []) (bytes "1") ≡ None
one_for_eleven = by_length (bytes "11") (bytes "1") (λ e. omega arith)

pub eleven_for_one : look_up (bytes "1" ∷ []) (bytes "11") ≡ None
eleven_for_one = by_length (bytes "1") (bytes "11") (λ e. omega arith)
