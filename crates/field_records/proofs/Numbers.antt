-- A number of eight bytes is made of two of four.
-- Assumes nothing.
use mathlib.Core.Path.{◌≡◌, ap}
use mathlib.Core.List.{List}
use Prim.Native.Nat.{ℕ, ◌+◌, ◌*◌}
use native.Mathlib.Nat.{add_assoc}
use native.Mathlib.Omega.{arith}
use lib.ListN.{get_or}
use Rattle.field_records.specs.Records.{big_endian, number_at}

pub halves : (bytes : List ℕ) (at : ℕ) → number_at 8 bytes at ≡ number_at 4 bytes at * 0x1_0000_0000 + number_at 4 bytes (at + 4)
unfolding big_endian
halves bytes at = omega (arith, shifted 0, shifted 1, shifted 2, shifted 3)
  where
    shifted : (j : ℕ) → get_or bytes (at + 4 + j) 0 ≡ get_or bytes (at + (4 + j)) 0
    shifted j = ap (λ (n : ℕ). get_or bytes n 0) (add_assoc at 4 j)
