-- The bench figures that are proved: one table of cases with the values that they must give, in the order and as printed in document
-- 01, with the inverse of 00 and the paper's logarithm of 10, and one theorem, that the definitions give them. That 00 has no logarithm is
-- the law `logarithm_none` of the field.
use Rattle.std.specs.Prelude.{ℕ, suc, ◌-◌, Bool, true, false, ◌&&◌, List, [], ◌∷◌, T, eqb, length, get_or, Some, None}
use Rattle.gf256.specs.Field.{product, power, inverse, carryless, remainder, first_exponent, logarithm}
use Rattle.column.specs.declared.Device.TheVariants.{Data}
use Rattle.column.specs.declared.Lost.TheVariants.{Two}
use Rattle.column.specs.Column.{Column, total, coefficients, reed_solomon, encode_column, write_column, rebuild_column, verdict_of, verdict}

-- A case and its value. A column is a list: the data, and where the case has parities, P and Q after them.
pub data Row : Type 0 where
  Product : (a b expected : ℕ) → Row
  Power : (x exponent expected : ℕ) → Row
  Inverse : (x expected : ℕ) → Row
  InverseNone : (x : ℕ) → Row
  Logarithm : (x expected : ℕ) → Row
  Encode : (bytes : List ℕ) (p q : ℕ) → Row
  Write : (bytes : List ℕ) (disk new p q : ℕ) → Row
  Lose : (bytes : List ℕ) (x y dx dy : ℕ) → Row
  Verdict : (bytes : List ℕ) (expected : ℕ) → Row

abbrev column_of : List ℕ → Column
column_of bytes role = get_or bytes role 0

-- the data disks of a column with parities
abbrev disks : List ℕ → ℕ
disks bytes = length bytes - 2

abbrev parities : ℕ → Column → ℕ → ℕ → Bool
parities n c p q = eqb (c n) p && eqb (c (suc n)) q

abbrev rebuilt : List ℕ → ℕ → ℕ → Column
rebuilt bytes x y = rebuild_column reed_solomon (disks bytes) (Two (Data x) (Data y)) (column_of bytes)

-- whether the definitions give the value
abbrev pub holds : Row → Bool
holds (Product a b expected) = eqb (product a b) expected
holds (Power x exponent expected) = eqb (power x exponent) expected
holds (Inverse x expected) = elim (inverse x) [ Some y ↦ eqb y.0 expected | None ↦ false ]
holds (InverseNone x) = elim (inverse x) [ Some y ↦ false | None ↦ true ]
holds (Logarithm x expected) = elim (logarithm x) [ Some e ↦ eqb e expected | None ↦ false ]
holds (Encode bytes p q) = parities (length bytes) (encode_column reed_solomon (length bytes) (column_of bytes)) p q
holds (Write bytes disk new p q) = parities (disks bytes) (write_column reed_solomon (disks bytes) disk new (column_of bytes)) p q
holds (Lose bytes x y dx dy) = eqb (rebuilt bytes x y x) dx && eqb (rebuilt bytes x y y) dy
holds (Verdict bytes expected) = eqb (verdict (disks bytes) (column_of bytes)) expected

abbrev pub table : List Row
table =
    Product 0x80 0x02 0x1d
    ∷ Product 0x8d 0x02 0x07
    ∷ Power 0x02 12 0xcd
    ∷ Inverse 0x02 0x8e
    ∷ InverseNone 0x00
    ∷ Logarithm 0x10 4
    ∷ Encode (0x5a ∷ []) 0x5a 0x5a
    ∷ Encode (0x01 ∷ 0x02 ∷ 0x04 ∷ []) 0x07 0x15
    ∷ Write (0x01 ∷ 0x02 ∷ 0x04 ∷ 0x07 ∷ 0x15 ∷ []) 1 0x80 0x85 0x0c
    ∷ Lose (0xff ∷ 0x02 ∷ 0xff ∷ 0x07 ∷ 0x15 ∷ []) 0 2 0x01 0x04
    ∷ Encode (0x01 ∷ 0x80 ∷ []) 0x81 0x1c
    ∷ Verdict (0x01 ∷ 0x03 ∷ 0x04 ∷ 0x07 ∷ 0x15 ∷ []) 17
    ∷ Verdict (0x01 ∷ 0x02 ∷ 0x04 ∷ 0x06 ∷ 0x1d ∷ []) 3
    ∷ []

abbrev all : List Row → Bool
all [] = true
all (r ∷ rs) = holds r && all rs

pub figures_hold : T (all table)
unfolding product power inverse carryless remainder first_exponent logarithm total coefficients reed_solomon verdict_of
figures_hold = tt
