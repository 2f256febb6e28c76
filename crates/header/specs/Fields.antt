-- Big-endian 16-bit fields.
use Rattle.std.specs.Prelude.{ℕ, ◌+◌, ◌*◌, ◌/◌, ◌%◌, ◌<◌, ◌≡◌, List, [], ◌∷◌, ◌++◌, get_or}

-- the number that stands at a place, with 00 past the end
unfoldable pub field : List ℕ → ℕ → ℕ
field bytes at = get_or bytes at 0 * 256 + get_or bytes (at + 1) 0

-- a field that was read
pub record FieldRead (bytes : List ℕ) (at r : ℕ) : Type 0 where
  pub value : r ≡ field bytes at
  pub small : r < 65536

-- the two bytes of a number, and those of several numbers one after the other
abbrev pub big_endian : ℕ → List ℕ
big_endian v = v / 256 ∷ v % 256 ∷ []

unfoldable pub fields : List ℕ → List ℕ
fields [] = []
fields (v ∷ vs) = big_endian v ++ fields vs
