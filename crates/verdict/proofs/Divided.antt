-- What the verdict divides by has an inverse, and what it takes the logarithm of has one: neither is 00.
-- Assumes nothing.
use mathlib.Core.Path.{◌≡◌, sym, ap, ◌∙◌}
use mathlib.Core.Logic.{◌≢◌}
use Prim.Native.Nat.{ℕ, ◌+◌, ◌≤◌, ◌<◌}
use Rattle.std.specs.Prelude.{Some, IsSome}
use Rattle.gf256.specs.declared.Element.{Element}
use Rattle.gf256.specs.Field.{product, inverse, quotient, first_exponent, logarithm}
use Rattle.gf256.proofs.Laws.{quotient_nonzero, inverse_is, inverse_value, exponent_of, logarithm_is, logarithm_exponent, exponent_within, exponent_beyond}
use Rattle.column.specs.Column.{verdict_of, located}
use Rattle.column.proofs.Verdicts.{row_both}

pub inverse_some : (x : ℕ) → x ≢ 0 → IsSome (inverse x)
inverse_some x other = rw (inverse_is x other)

pub logarithm_some : (x : ℕ) → x < 256 → x ≢ 0 → IsSome (logarithm x)
logarithm_some x h other = rw (logarithm_is (exponent_of x h other).1)

-- equation 26
by_inverse : (p q : ℕ) (over : Element) (other : p ≢ 0) → inverse p ≡ Some over → product q over.0 ≡ quotient q p other
by_inverse p q over other is = ap (product q) (inverse_value p other is)

pub ratio_nonzero : (p q : ℕ) (over : Element) → inverse p ≡ Some over → p < 256 → q < 256 → p ≢ 0 → q ≢ 0 → product q over.0 ≢ 0
ratio_nonzero p q over is hp hq np nq e = quotient_nonzero q p hq hp nq np (sym (by_inverse p q over np is) ∙ e)

-- the last row of the table
pub row_ratio : (n p q : ℕ) (over : Element) → inverse p ≡ Some over → p ≢ 0 → q ≢ 0 → verdict_of n p q ≡ located (first_exponent (product q over.0) 0 n)
row_ratio n p q over is np nq =
    row_both n p q np nq ∙ ap (λ (v : ℕ). located (first_exponent v 0 n)) (sym (by_inverse p q over np is))

-- equation 27: the logarithm is the first exponent, and one of n where it is below n
pub located_within : (n x z : ℕ) → logarithm x ≡ Some z → x < 256 → z < n → located (first_exponent x 0 n) ≡ 16 + z
located_within n x z is h within = ap located (exponent_within (logarithm_exponent x h is) within)

pub located_beyond : (n x z : ℕ) → logarithm x ≡ Some z → x < 256 → n ≤ z → located (first_exponent x 0 n) ≡ 3
located_beyond n x z is h beyond = ap located (exponent_beyond (logarithm_exponent x h is) beyond)
