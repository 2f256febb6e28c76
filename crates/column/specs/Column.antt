-- One column: position i of all devices. A column gives the symbol of each role: data disk k is role k, P is role n, Q is role n + 1.
-- Equations are numbered as in the paper.
use Rattle.std.specs.Prelude.{ℕ, zero, suc, ◌+◌, ◌≡◌, eqb, Option, Some, None}
use Rattle.std.proofs.Common.{suc-ne-zero}
use Rattle.gf256.specs.Field.{sum, product, power, reciprocal, quotient, first_exponent}
use Rattle.gf256.proofs.Laws.{power_of_two_nonzero}
use Rattle.column.specs.declared.Device.{Device}
use Rattle.column.specs.declared.Device.TheVariants.{Data, P, Q}
use Rattle.column.specs.declared.Lost.{Lost}
use Rattle.column.specs.declared.Lost.TheVariants.{One, Two}
use Rattle.base.specs.Choice.{choose}

abbrev pub Column : Type 0
Column = ℕ → ℕ

-- the column with v at role d
abbrev pub put : ℕ → ℕ → Column → Column
put d v c r = choose (eqb r d) v (c r)

abbrev pub role_of : ℕ → Device → ℕ
role_of n (Data k) = k
role_of n P = n
role_of n Q = n + 1

-- f 0 + f 1 + ... + f (n - 1)
unfoldable pub total : ℕ → (ℕ → ℕ) → ℕ
total zero f = 0
total (suc k) f = sum (total k f) (f k)

-- two bytes of a column, for the first and the second of two devices
pub record TwoBytes : Type 0 where
  pub first : ℕ
  pub second : ℕ

abbrev pub exchanged : TwoBytes → TwoBytes
exchanged p = record { first = p.second; second = p.first }

-- What two parities need of a code: `act k`, how disk k's symbol enters Q; `undo k`, which takes that back; and `split x y`, which
-- finds D_x from the two sums D_x + D_y and act x D_x + act y D_y.
pub record Code : Type 0 where
  pub act : ℕ → ℕ → ℕ
  pub undo : ℕ → ℕ → ℕ
  pub split : ℕ → ℕ → ℕ → ℕ → ℕ

-- The Reed-Solomon code of the paper. A power of 02 is never 00 (`power_of_two_nonzero`), so that 02^-x is there for every disk x, and
-- 02^y / 02^x, the paper's g^(y-x).
abbrev pub over_power : ℕ → ℕ
over_power x = reciprocal (power 2 x) (power_of_two_nonzero x)

abbrev pub ratio : ℕ → ℕ → ℕ
ratio y x = product (power 2 y) (over_power x)

-- What equations 17 and 18 divide by: g^(y-x) + 01. It is not 00 for two different disks below 255 (`divisor_nonzero`).
abbrev pub divisor : ℕ → ℕ → ℕ
divisor x y = sum (ratio y x) 1

-- A and B of equations 17 and 18, from what they divide by. Where that is 00 nothing is divided: x and y are one disk, modulo 255, and with
-- 01 and 00 equation 19 gives it what equation 1 does (`split_same`).
abbrev pub coefficients_by : ℕ → ℕ → ℕ → TwoBytes
coefficients_by x y zero = record { first = 1; second = 0 }
coefficients_by x y (suc d) =
    record { first = quotient (ratio y x) (suc d) (suc-ne-zero d); second = quotient (over_power x) (suc d) (suc-ne-zero d) }

unfoldable pub coefficients : ℕ → ℕ → TwoBytes
coefficients x y = coefficients_by x y (divisor x y)

-- equations 2, 5 and 19
unfoldable pub reed_solomon : Code
reed_solomon =
    record {
      act = λ k d. product (power 2 k) d;
      undo = λ k q. product (over_power k) q;
      split = λ x y p q. sum (product (coefficients x y).first p) (product (coefficients x y).second q);
    }

-- the right side of equation 1
abbrev pub parity_p : ℕ → Column → ℕ
parity_p n c = total n c

-- What stood on a lost disk is taken as 00. Data disk x from equation 1, and, for two lost data disks, P + P_xy:
abbrev pub from_p : ℕ → ℕ → Column → ℕ
from_p n x c = sum (c n) (parity_p n (put x 0 c))

abbrev pub rest_p : ℕ → ℕ → ℕ → Column → ℕ
rest_p n x y c = sum (c n) (parity_p n (put x 0 (put y 0 c)))

-- P* of the paper's section 4: stored plus recomputed
abbrev pub syndrome_p : ℕ → Column → ℕ
syndrome_p n c = sum (c n) (parity_p n c)

module _ (code : Code) where
  -- the right side of equation 2
  abbrev pub parity_q : ℕ → Column → ℕ
  parity_q n c = total n (λ k. code.act k (c k))

  -- a column that meets equations 1 and 2
  pub record Encoded (n : ℕ) (c : Column) : Type 0 where
    pub first : c n ≡ parity_p n c
    pub second : c (n + 1) ≡ parity_q n c

  -- encode: P and Q are set, data stay
  abbrev pub encode_column : ℕ → Column → Column
  encode_column n c = put n (parity_p n c) (put (n + 1) (parity_q n c) c)

  -- write: data disk k gets v, and what changed is added to P and, times the coefficient, to Q
  abbrev pub adjust_column : ℕ → ℕ → ℕ → Column → Column
  adjust_column n k v c = put n (sum (c n) (sum (c k) v)) (put (n + 1) (sum (c (n + 1)) (code.act k (sum (c k) v))) c)

  abbrev pub write_column : ℕ → ℕ → ℕ → Column → Column
  write_column n k v c = put k v (adjust_column n k v c)

  -- data disk x from equation 2 (equation 5)
  abbrev pub from_q : ℕ → ℕ → Column → ℕ
  from_q n x c = code.undo x (sum (c (n + 1)) (parity_q n (put x 0 c)))

  -- two lost data disks x and y: Q + Q_xy, and D_x by equation 19
  abbrev pub rest_q : ℕ → ℕ → ℕ → Column → ℕ
  rest_q n x y c = sum (c (n + 1)) (parity_q n (put x 0 (put y 0 c)))

  abbrev pub from_both : ℕ → ℕ → ℕ → Column → ℕ
  from_both n x y c = code.split x y (rest_p n x y c) (rest_q n x y c)

  -- the new byte of one lost device
  abbrev pub new_byte : ℕ → Device → Column → ℕ
  new_byte n (Data x) c = from_p n x c
  new_byte n P c = parity_p n c
  new_byte n Q c = parity_q n c

  -- The new bytes of two lost devices. Where a parity is one of them, it is recomputed from the data with the new data byte.
  abbrev pub data_and_p : ℕ → ℕ → Column → TwoBytes
  data_and_p n x c = record { first = from_q n x c; second = parity_p n (put x (from_q n x c) c) }

  abbrev pub data_and_q : ℕ → ℕ → Column → TwoBytes
  data_and_q n x c = record { first = from_p n x c; second = parity_q n (put x (from_p n x c) c) }

  -- equations 19 and 20
  abbrev pub two_data : ℕ → ℕ → ℕ → Column → TwoBytes
  two_data n x y c = record { first = from_both n x y c; second = sum (rest_p n x y c) (from_both n x y c) }

  abbrev pub new_bytes : ℕ → Device → Device → Column → TwoBytes
  new_bytes n (Data x) (Data y) c = two_data n x y c
  new_bytes n (Data x) P c = data_and_p n x c
  new_bytes n (Data x) Q c = data_and_q n x c
  new_bytes n P (Data x) c = exchanged (data_and_p n x c)
  new_bytes n P P c = record { first = parity_p n c; second = parity_p n c }
  new_bytes n P Q c = record { first = parity_p n c; second = parity_q n c }
  new_bytes n Q (Data x) c = exchanged (data_and_q n x c)
  new_bytes n Q P c = record { first = parity_q n c; second = parity_p n c }
  new_bytes n Q Q c = record { first = parity_q n c; second = parity_q n c }

  -- rebuild: the named devices get their new bytes
  abbrev pub rebuild_column : ℕ → Lost → Column → Column
  rebuild_column n (One d) c = put (role_of n d) (new_byte n d c) c
  rebuild_column n (Two d e) c = put (role_of n d) (new_bytes n d e c).first (put (role_of n e) (new_bytes n d e c).second c)

  -- Q*
  abbrev pub syndrome_q : ℕ → Column → ℕ
  syndrome_q n c = sum (c (n + 1)) (parity_q n c)

-- The verdict on a column, from P* and Q*: 0 clean, 1 for P, 2 for Q; where neither is 00, 16 + z for the data disk z with g^z = Q*/P*
-- (equation 26), and 3 where no data disk has it. So z is the logarithm of Q*/P* (equation 27).
abbrev pub located : Option ℕ → ℕ
located (Some z) = 16 + z
located None = 3

unfoldable pub verdict_of : ℕ → ℕ → ℕ → ℕ
verdict_of n zero zero = 0
verdict_of n (suc p) zero = 1
verdict_of n zero (suc q) = 2
verdict_of n (suc p) (suc q) = located (first_exponent (quotient (suc q) (suc p) (suc-ne-zero p)) 0 n)

abbrev pub verdict : ℕ → Column → ℕ
verdict n c = verdict_of n (syndrome_p n c) (syndrome_q reed_solomon n c)

-- the verdict that names a device
abbrev pub right_verdict : Device → ℕ
right_verdict (Data z) = 16 + z
right_verdict P = 1
right_verdict Q = 2

-- repair (2026-02), where the summary names device d: a column with a verdict is mended, P or Q recomputed and a data byte from P, and a clean
-- column stays
abbrev pub mend_column : ℕ → Device → Column → Column
mend_column n d c = choose (eqb (verdict n c) 0) c (rebuild_column reed_solomon n (One d) c)
