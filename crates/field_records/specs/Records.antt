-- The answers to records of ten bytes: the operation's number, the operand a, and a big-endian number of eight bytes, which is the exponent
-- of a power and otherwise holds the operand b in its low byte.
use Rattle.std.specs.Prelude.{◌≡◌, List, [], ◌∷◌, ℕ, zero, suc, ◌+◌, ◌*◌, ◌/◌, ◌%◌, ltb, length, get_or, Option, Some, None, Result, MatchResult, ◌⊎◌, ◌<◌}
use Rattle.base.specs.Choice.{choose}
use Rattle.base.specs.Table.{tabulate}
use Rattle.gf256.specs.declared.Element.{Element}
use Rattle.gf256.specs.Field.{sum, double, product, power, inverse, logarithm}
use Rattle.field_records.specs.declared.Operation.{Operation}
use Rattle.field_records.specs.declared.NoOperation.{NoOperation}
use Rattle.field_records.specs.declared.Operation.TheVariants.{Sum, Product, Power, Inverse, Logarithm, Double}

-- the two bytes of an answer: 01 and the value, or 00 00 for none
abbrev pub bytes_of : Option ℕ → List ℕ
bytes_of (Some v) = 1 ∷ v ∷ []
bytes_of None = 0 ∷ 0 ∷ []

abbrev pub of_inverse : Option Element → Option ℕ
of_inverse (Some y) = Some y.0
of_inverse None = None

abbrev pub number_of : Operation → ℕ
number_of Sum = 1
number_of Product = 2
number_of Power = 3
number_of Inverse = 4
number_of Logarithm = 5
number_of Double = 6

-- the operation with this number, which an error says there is none of
abbrev pub Operations : ℕ → Result Operation NoOperation → Type 0
Operations number r = MatchResult r (λ operation. number_of operation ≡ number) (λ none. (number ≡ 0) ⊎ (6 < number))

-- The operations by their numbers, from 1 on; any other number answers none.
unfoldable pub answer : ℕ → ℕ → ℕ → Option ℕ
answer operation a b =
    get_or (None ∷ Some (sum a (b % 256)) ∷ Some (product a (b % 256)) ∷ Some (power a b) ∷ of_inverse (inverse a) ∷ logarithm a ∷ Some (double a) ∷ []) operation None

-- the number that k bytes write, high byte first
unfoldable pub big_endian : ℕ → (ℕ → ℕ) → ℕ
big_endian zero byte = 0
big_endian (suc k) byte = big_endian k byte * 256 + byte k

-- the number of k bytes that stands at a place
abbrev pub number_at : ℕ → List ℕ → ℕ → ℕ
number_at k bytes at = big_endian k (λ j. get_or bytes (at + j) 0)

abbrev pub answer_at : List ℕ → ℕ → Option ℕ
answer_at bytes at = answer (get_or bytes at 0) (get_or bytes (at + 1) 0) (number_at 8 bytes (at + 2))

-- how many whole records there are
abbrev pub records : List ℕ → ℕ
records bytes = length bytes / 10

-- places 2j and 2j + 1 get the answer to record j, and a place past the last one keeps what it held
abbrev pub placed : List ℕ → ℕ → ℕ → ℕ
placed bytes place old =
    choose (ltb place (2 * records bytes)) (get_or (bytes_of (answer_at bytes (10 * (place / 2)))) (place % 2) 0) old

unfoldable pub answered : List ℕ → List ℕ
answered bytes = tabulate (length bytes) (λ j. placed bytes j (get_or bytes j 0))

-- what the function on records promises: how many bytes are answers, and the final bytes
pub record AnswerAllCall (before : List ℕ) (r : ℕ) (after : List ℕ) : Type 0 where
  pub count : r ≡ 2 * records before
  pub bytes : after ≡ answered before
