-- The field GF(2^8) of the paper's section 1. An element is a byte: a polynomial over two elements whose coefficient of x^i is
-- the bit of weight 2^i. `double`, `product` and `power` read the low eight bits of their elements alone.
use Rattle.std.specs.Prelude.{ℕ, zero, suc, ◌+◌, ◌*◌, ◌/◌, ◌%◌, ◌^◌, ◌<◌, ◌≡◌, true, false, ◌≢◌, eqb, ltb, Option, Some, None}
use Rattle.std.proofs.Common.{suc-ne-zero}
use Rattle.std.specs.Int.Bits.{bit_xor, differ}
use Rattle.gf256.specs.declared.Element.{Element}

abbrev pub element : ℕ → Element
element v = record { 0 = v }

-- the coefficient of x^i
abbrev pub bit : ℕ → ℕ → ℕ
bit x i = x / 2 ^ i % 2

-- the sum: exclusive or, coefficient by coefficient
abbrev pub sum : ℕ → ℕ → ℕ
sum = bit_xor

-- Times 02, by the paper's eight relations, from the coefficient of x^7 down to that of x^0.
unfoldable pub double : ℕ → ℕ
double x =
    128 * bit x 6
    + 64 * bit x 5
    + 32 * bit x 4
    + 16 * differ (bit x 3) (bit x 7)
    + 8 * differ (bit x 2) (bit x 7)
    + 4 * differ (bit x 1) (bit x 7)
    + 2 * bit x 0
    + bit x 7

-- The product of two polynomials, not yet reduced: the sum, over the first k coefficients of b, of a times x^i where b has x^i.
unfoldable pub carryless : ℕ → ℕ → ℕ → ℕ
carryless zero a b = 0
carryless (suc k) a b = sum (carryless k a b) (bit b k * (a % 256 * 2 ^ k))

-- what x^8 is replaced by: x^4 + x^3 + x^2 + 1
abbrev pub reduced : ℕ
reduced = 0x1d

-- The remainder modulo x^8 + x^4 + x^3 + x^2 + 1 of a polynomial of degree below 8 + k: from the top down, x^(8+k) is replaced.
unfoldable pub remainder : ℕ → ℕ → ℕ
remainder zero c = c
remainder (suc k) c = remainder k (sum (c % 2 ^ (8 + k)) (bit c (8 + k) * (reduced * 2 ^ k)))

-- The product: that of the polynomials, of degree below 16, reduced.
unfoldable pub product : ℕ → ℕ → ℕ
product a b = remainder 8 (carryless 8 a b)

-- The power: repeated product, from 01 for the exponent 0.
unfoldable pub power : ℕ → ℕ → ℕ
power x zero = 1
power x (suc e) = product x (power x e)

-- Division. An element other than 00 times its 254th power is 01 (`product_inverse`), so that power is B^-1, and A/B is A·B^-1. The last
-- argument says that B is not 00: without it nothing is divided.
abbrev pub reciprocal : (b : ℕ) → b ≢ 0 → ℕ
reciprocal b other = power b 254

abbrev pub quotient : (a b : ℕ) → b ≢ 0 → ℕ
quotient a b other = product a (reciprocal b other)

-- The inverse that an element answers: none for 00.
unfoldable pub inverse : ℕ → Option Element
inverse zero = None
inverse (suc x) = Some (element (reciprocal (suc x) (suc-ne-zero x)))

-- the first of the k exponents from e on whose power of 02 is x, else none
unfoldable pub first_exponent : ℕ → ℕ → ℕ → Option ℕ
first_exponent x e zero = None
first_exponent x e (suc k) = elim (eqb (power 2 e) x) [ true ↦ Some e | false ↦ first_exponent x (suc e) k ]

-- The logarithm to base 02 that an element answers: the first exponent below 255 whose power of 02 it is. No power of 02 is 00
-- (`power_of_two_nonzero`), so none for 00.
unfoldable pub logarithm : ℕ → Option ℕ
logarithm x = first_exponent x 0 255

-- what a private function of the code finds in its table: the exponent e of the power of 02 that x is
pub record ExponentOf (x e : ℕ) : Type 0 where
  pub below : e < 255
  pub is : power 2 e ≡ x

-- what a private function of the code reads: entry p of a table of sixteen bytes in two words, the lowest byte first
unfoldable pub entry_of : ℕ → ℕ → ℕ → ℕ
entry_of first second p = elim (ltb p 8) [ true ↦ first | false ↦ second ] / 2 ^ (8 * (p % 8)) % 256
