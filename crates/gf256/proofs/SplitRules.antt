-- The rule of the split tables. An entry of the low table is the multiplier's product with its place, one of the high table that with
-- sixteen times its place, and every product is the sum of one entry of each. Each rule is computed once over all 256 multipliers.
-- Assumes nothing.
use mathlib.Core.Path.{◌≡◌, refl, sym, ap, ap₂, ◌∙◌}
use mathlib.Core.Bool.{Bool}
use Prim.Native.Nat.{ℕ, zero, suc, ◌*◌, ◌/◌, ◌%◌, ◌^◌, ◌<◌}
use native.Mathlib.Nat.{mod-lt, zero-lt-suc}
use native.Mathlib.Omega.{arith}
use lib.Dec.{T}
use lib.Pow.{pow-lt, shr_lt}
use lib.Bits.{xor_comm}
use Rattle.gf256.specs.Field.{bit, sum, double, product, carryless, remainder, entry_of}
use Rattle.gf256.proofs.Check.{all, all_at, same, same_at}
use Rattle.gf256.proofs.Additive.{Additive, additive_sum, additive_after, additive_digit, additive_shr, agree, parted}
use Rattle.gf256.proofs.Product.{doubled, doubled_lt, by_power, product_right, product_lt, product_assoc, double_product}
use Rattle.gf256.proofs.SplitTables.{split_rows, rows_of, low, high}

-- ---- The low table. An entry is the sum of those at the digits of its place; at a place of one digit it is the multiplier, doubled as often as
-- the digit says.
abbrev spread : (ℕ → ℕ) → ℕ → ℕ
spread f p = sum (sum (bit p 0 * f 1) (bit p 1 * f 2)) (sum (bit p 2 * f 4) (bit p 3 * f 8))

spread_additive : (f : ℕ → ℕ) → Additive (spread f)
spread_additive f =
    additive_sum (λ p. sum (bit p 0 * f 1) (bit p 1 * f 2)) (λ p. sum (bit p 2 * f 4) (bit p 3 * f 8))
    (additive_sum (λ p. bit p 0 * f 1) (λ p. bit p 1 * f 2) (digit 0 (f 1)) (digit 1 (f 2)))
    (additive_sum (λ p. bit p 2 * f 4) (λ p. bit p 3 * f 8) (digit 2 (f 4)) (digit 3 (f 8)))
  where
    digit : (i m : ℕ) → Additive (λ p. bit p i * m)
    digit i m = additive_after (λ d. d % 2 * m) (λ p. p / 2 ^ i) (additive_digit m) (additive_shr i)

abbrev spread_at : ℕ → Bool
spread_at c = same 16 (low c) (spread (low c))

spread_tested : T (all 256 spread_at)
unfolding low rows_of split_rows entry_of
spread_tested = tt

abbrev doublings : ℕ → ℕ → ℕ
doublings zero x = x
doublings (suc k) x = double (doublings k x)

doublings_are : (k x : ℕ) → x < 256 → doublings k x ≡ doubled k x
doublings_are zero x h = refl
doublings_are (suc k) x h = ap double (doublings_are k x h) ∙ double_product (doubled k x) (doubled_lt k x h)

abbrev one_at : ℕ → Bool
one_at c = same 4 (λ i. low c (2 ^ i)) (λ i. doublings i c)

one_tested : T (all 256 one_at)
unfolding low rows_of split_rows entry_of double
one_tested = tt

pub low_entry : (c p : ℕ) → c < 256 → p < 16 → low c p ≡ product c p
low_entry c p hc hp =
    sums p hp
    ∙ agree (spread (low c)) (product c) (spread_additive (low c)) (product_right c) 4
    (λ i hi.
    sym (sums (2 ^ i) (pow-lt hi))
    ∙ same_at 4 (λ i. low c (2 ^ i)) (λ i. doublings i c) (all_at 256 one_at one_tested c hc) i hi
    ∙ doublings_are i c hc
    ∙ sym (by_power i c (omega arith) hc))
    p hp
  where
    sums : (p : ℕ) → p < 16 → low c p ≡ spread (low c) p
    sums = same_at 16 (low c) (spread (low c)) (all_at 256 spread_at spread_tested c hc)

-- ---- The high table, that of the low half for the multiplier times 10.
first_tested : T (same 256 (λ c. (rows_of c).high0) (λ c. (rows_of (product c 16)).low0))
unfolding rows_of split_rows product carryless remainder
first_tested = tt

second_tested : T (same 256 (λ c. (rows_of c).high8) (λ c. (rows_of (product c 16)).low8))
unfolding rows_of split_rows product carryless remainder
second_tested = tt

shift_tested : T (same 16 (product 16) (λ p. p * 16))
unfolding product carryless remainder
shift_tested = tt

pub high_entry : (c p : ℕ) → c < 256 → p < 16 → high c p ≡ product c (p * 16)
unfolding low high
high_entry c p hc hp =
    ap₂ (λ (v w : ℕ). entry_of v w p) (same_at 256 (λ c. (rows_of c).high0) (λ c. (rows_of (product c 16)).low0) first_tested c hc)
    (same_at 256 (λ c. (rows_of c).high8) (λ c. (rows_of (product c 16)).low8) second_tested c hc)
    ∙ low_entry (product c 16) p (product_lt c 16) hp
    ∙ product_assoc c 16 p
    ∙ ap (product c) (same_at 16 (product 16) (λ p. p * 16) shift_tested p hp)

-- ---- Every product is the sum of one entry of each.
pub product_by_entries : (c x : ℕ) → c < 256 → x < 256 → sum (low c (x % 16)) (high c (x / 16)) ≡ product c x
product_by_entries c x hc hx =
    ap₂ sum (low_entry c (x % 16) hc (mod-lt x (zero-lt-suc 15))) (high_entry c (x / 16) hc (shr_lt 4 4 hx))
    ∙ xor_comm (product c (x % 16)) (product c (x / 16 * 16))
    ∙ sym (ap (product c) (parted x 4) ∙ product_right c (x / 16 * 16) (x % 16))
