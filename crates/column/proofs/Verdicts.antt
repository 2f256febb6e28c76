-- The check is right: where a column was encoded and at most one device has changed in it since, its verdict names that device; and it
-- is 0 exactly where both equations hold. The four rows of the paper's table, and equations 24 to 27.
-- Assumes nothing.
use mathlib.Core.Path.{◌≡◌, refl, sym, ap, ap₂, ◌∙◌}
use mathlib.Core.Logic.{◌≢◌, ◌↔◌, ◌⊎◌, inl, inr}
use Rattle.std.specs.Prelude.{Option, Some, None}
use Prim.Native.Nat.{ℕ, zero, suc, ◌+◌, ◌≤◌, ◌<◌}
use native.Mathlib.Nat.{suc-ne-zero, le_refl}
use native.Mathlib.Omega.{arith}
use native.Mathlib.Decide.{ℕ_discrete}
use Rattle.gf256.specs.Field.{sum, product, power, reciprocal, quotient, first_exponent, logarithm}
use Rattle.gf256.proofs.Laws.{sum_cancel, sum_only_zero, xor_lt, product_right, product_comm, product_assoc, product_one, product_inverse, product_nonzero, power_lt, power_of_two_nonzero, found_is, exponent_within, logarithm_power_of_two}
use Rattle.column.specs.Column.{Column, put, parity_p, parity_q, syndrome_p, syndrome_q, Encoded, reed_solomon, verdict_of, verdict, located}
use Rattle.column.proofs.Total.{total_same}
use Rattle.column.proofs.Put.{put_same, put_other}
use Rattle.column.proofs.Weighted.{Additive, weighted, weighted_change, weighted_outside}
use Rattle.column.proofs.ReedSolomon.{reed_solomon_lem}
use Rattle.column.specs.Lawful.{Symbols}
use Rattle.column.proofs.Series.{encoded_zero, zero_encoded}

-- ---- the rows of the table
pub row_clean : (n : ℕ) → verdict_of n 0 0 ≡ 0
unfolding verdict_of
row_clean n = refl

pub row_p : (n p : ℕ) → p ≢ 0 → verdict_of n p 0 ≡ 1
unfolding verdict_of
row_p n zero h = absurd (h refl)
row_p n (suc p) h = refl

pub row_q : (n q : ℕ) → q ≢ 0 → verdict_of n 0 q ≡ 2
unfolding verdict_of
row_q n zero h = absurd (h refl)
row_q n (suc q) h = refl

pub row_both : (n p q : ℕ) (hp : p ≢ 0) → q ≢ 0 → verdict_of n p q ≡ located (first_exponent (quotient q p hp) 0 n)
unfolding verdict_of
row_both n zero q hp hq = absurd (hp refl)
row_both n (suc p) zero hp hq = absurd (hq refl)
row_both n (suc p) (suc q) hp hq = refl

located_nonzero : (l : Option ℕ) → located l ≢ 0
located_nonzero (Some z) e = absurd (omega arith)
located_nonzero None e = suc-ne-zero 2 e

-- a verdict of 0 is the first row's
pub clean_only : (n p q : ℕ) → verdict_of n p q ≡ 0 → (p ≡ 0) × (q ≡ 0)
clean_only n p q e = go (ℕ_discrete p 0) (ℕ_discrete q 0)
  where
    go : Dec (p ≡ 0) → Dec (q ≡ 0) → (p ≡ 0) × (q ≡ 0)
    go (yes a) (yes b) = (a, b)
    go (yes a) (no b) = absurd (suc-ne-zero 1 (sym (row_q n q b) ∙ ap (λ (x : ℕ). verdict_of n x q) (sym a) ∙ e))
    go (no a) (yes b) = absurd (suc-ne-zero 0 (sym (row_p n p a) ∙ ap (verdict_of n p) (sym b) ∙ e))
    go (no a) (no b) = absurd (located_nonzero (first_exponent (quotient q p a) 0 n) (sym (row_both n p q a b) ∙ e))

-- (c b)/b is c
quotient_product : (c b : ℕ) (other : b ≢ 0) → c < 256 → b < 256 → quotient (product c b) b other ≡ c
quotient_product c b other hc hb =
    product_assoc c b (reciprocal b other)
    ∙ ap (product c) (product_inverse b hb other)
    ∙ product_comm c 1
    ∙ product_one c hc

-- the verdict where Q* is c P*: it does not depend on P*
pub row_multiple : (n p c : ℕ) → p ≢ 0 → p < 256 → c ≢ 0 → c < 256 → verdict_of n p (product c p) ≡ located (first_exponent c 0 n)
row_multiple n p c hp bp hc bc =
    row_both n p (product c p) hp (product_nonzero c p bc bp hc hp)
    ∙ ap (λ (v : ℕ). located (first_exponent v 0 n)) (quotient_product c p hp bc bp)

module _ (n : ℕ) (few : n ≤ 255) (c : Column) where
  -- the verdict is 0 exactly where both equations hold
  pub verdict_zero : (verdict n c ≡ 0) ↔ Encoded reed_solomon n c
  verdict_zero = (to, from)
    where
      to : verdict n c ≡ 0 → Encoded reed_solomon n c
      to e =
          let both = clean_only n (syndrome_p n c) (syndrome_q reed_solomon n c) e in
          zero_encoded reed_solomon n c both.0 both.1

      from : Encoded reed_solomon n c → verdict n c ≡ 0
      from h =
          let zeros = encoded_zero reed_solomon n c h in
          ap₂ (verdict_of n) zeros.0 zeros.1 ∙ row_clean n

  module _ (symbols : Symbols 8 c) (h : Encoded reed_solomon n c) (v : ℕ) (byte : v < 256) where
    -- P was changed, and so P* is not 00
    pub verdict_p : v ≢ c n → verdict n (put n v c) ≡ 1
    verdict_p changed =
        ap₂ (verdict_of n) (ap₂ sum (put_same n v c) (weighted_outside (λ k x. x) (λ k x y. refl) n c n v (omega arith)))
        (ap₂ sum (put_other n v c (n + 1) (omega arith)) (weighted_outside reed_solomon.act reed_solomon_lem.act_sum n c n v (omega arith)) ∙ (encoded_zero reed_solomon n c h).1)
        ∙ row_p n (sum v (parity_p n c)) (λ e. changed (sum_only_zero v (parity_p n c) e ∙ sym h.first))

    -- Q was
    pub verdict_q : v ≢ c (n + 1) → verdict n (put (n + 1) v c) ≡ 2
    verdict_q changed =
        ap₂ (verdict_of n)
        (ap₂ sum (put_other (n + 1) v c n (omega arith)) (weighted_outside (λ k x. x) (λ k x y. refl) n c (n + 1) v (omega arith)) ∙ (encoded_zero reed_solomon n c h).0)
        (ap₂ sum (put_same (n + 1) v c) (weighted_outside reed_solomon.act reed_solomon_lem.act_sum n c (n + 1) v (omega arith)))
        ∙ row_q n (sum v (parity_q reed_solomon n c)) (λ e. changed (sum_only_zero v (parity_q reed_solomon n c) e ∙ sym h.second))

    -- data disk z was: D_z is what stood there, and X_z is v
    module _ (z : ℕ) (hz : z < n) where
      abbrev δ : ℕ
      δ = sum (c z) v

      abbrev P* : ℕ
      P* = syndrome_p n (put z v c)

      abbrev Q* : ℕ
      Q* = syndrome_q reed_solomon n (put z v c)

      -- stored plus recomputed, for either parity
      differs : (t : ℕ → ℕ → ℕ) → Additive t → (p : ℕ) → p ≡ weighted t n c → sum p (weighted t n (put z v c)) ≡ t z δ
      differs t add p e = ap₂ sum e (weighted_change t add n c z v hz) ∙ sum_cancel (weighted t n c) (t z δ)

      -- P* = D_z + X_z
      pub equation24 : P* ≡ δ
      equation24 =
          ap (λ (p : ℕ). sum p (parity_p n (put z v c))) (put_other z v c n (omega arith)) ∙ differs (λ k x. x) (λ k x y. refl) (c n) h.first

      -- Q* = g^z·P*
      pub equation25 : Q* ≡ product (power 2 z) P*
      unfolding reed_solomon
      equation25 =
          ap (λ (q : ℕ). sum q (parity_q reed_solomon n (put z v c))) (put_other z v c (n + 1) (omega arith))
          ∙ differs (λ k x. product (power 2 k) x) (λ k. product_right (power 2 k)) (c (n + 1)) h.second
          ∙ ap (product (power 2 z)) (sym equation24)

      module _ (changed : v ≢ c z) where
        p_byte : P* < 256
        p_byte = rw equation24 (xor_lt 8 (c z) v (symbols z) byte)

        pub p_nonzero : P* ≢ 0
        p_nonzero e = changed (sym (sum_only_zero (c z) v (sym equation24 ∙ e)))

        q_nonzero : Q* ≢ 0
        q_nonzero e =
            product_nonzero (power 2 z) P* (power_lt 2 z) p_byte (power_of_two_nonzero z) p_nonzero (sym equation25 ∙ e)

        -- Q*/P* = g^z
        pub equation26 : quotient Q* P* p_nonzero ≡ power 2 z
        equation26 =
            ap (λ (q : ℕ). quotient q P* p_nonzero) equation25 ∙ quotient_product (power 2 z) P* p_nonzero (power_lt 2 z) p_byte

        -- z = log(Q*/P*)
        pub equation27 : logarithm (quotient Q* P* p_nonzero) ≡ Some z
        equation27 = ap logarithm equation26 ∙ logarithm_power_of_two z (omega arith)

        pub verdict_data : verdict n (put z v c) ≡ 16 + z
        verdict_data =
            row_both n P* Q* p_nonzero q_nonzero ∙ ap located (exponent_within (record { below = omega arith; is = sym equation26 }) hz)

-- the verdict depends on the column alone
pub verdict_local : (n : ℕ) (c e : Column) → ((r : ℕ) → r < n + 2 → c r ≡ e r) → verdict n c ≡ verdict n e
verdict_local n c e same =
    ap₂ (verdict_of n) (ap₂ sum (same n (omega arith)) (total_same n (λ k p. same k (omega arith))))
    (ap₂ sum (same (n + 1) (omega arith)) (total_same n (λ k p. ap (reed_solomon.act k) (same k (omega arith)))))

-- a verdict is one of the four small ones, or names a data disk that the stripe has
pub verdict_known : (n : ℕ) (c : Column) → (verdict n c ≤ 3) ⊎ ((16 ≤ verdict n c) × (verdict n c < 16 + n))
unfolding verdict_of
verdict_known n c = rows (syndrome_p n c) (syndrome_q reed_solomon n c)
  where
    last : (l : Option ℕ) → ((z : ℕ) → l ≡ Some z → z < n) → (located l ≤ 3) ⊎ ((16 ≤ located l) × (located l < 16 + n))
    last (Some z) below = inr (omega arith, omega (arith, below z refl))
    last None below = inl (le_refl 3)

    rows : (p q : ℕ) → (verdict_of n p q ≤ 3) ⊎ ((16 ≤ verdict_of n p q) × (verdict_of n p q < 16 + n))
    rows zero zero = inl (omega arith)
    rows (suc p) zero = inl (omega arith)
    rows zero (suc q) = inl (omega arith)
    rows (suc p) (suc q) =
        let v = quotient (suc q) (suc p) (suc-ne-zero p) in last (first_exponent v 0 n) (λ z is. omega (arith, (found_is v n 0 is).0))

-- P* and Q* are both other than 00 where the check divides: 0, 1 and 2 are told without
pub divides_nonzero : (n : ℕ) (c : Column) → 3 ≤ verdict n c → (syndrome_p n c ≢ 0) × (syndrome_q reed_solomon n c ≢ 0)
unfolding verdict_of
divides_nonzero n c = rows (syndrome_p n c) (syndrome_q reed_solomon n c)
  where
    rows : (p q : ℕ) → 3 ≤ verdict_of n p q → (p ≢ 0) × (q ≢ 0)
    rows zero zero h = absurd (omega arith)
    rows (suc p) zero h = absurd (omega arith)
    rows zero (suc q) h = absurd (omega arith)
    rows (suc p) (suc q) h = (suc-ne-zero p, suc-ne-zero q)

-- ---- what a verdict that names a device tells of P* and Q*
located_is : (l : Option ℕ) {z : ℕ} → located l ≡ 16 + z → l ≡ Some z
located_is (Some y) e = ap Some (omega arith)
located_is None e = absurd (omega arith)

located_large : (l : Option ℕ) → 3 ≤ located l
located_large (Some z) = omega arith
located_large None = le_refl 3

pub told_p : (n p q : ℕ) → verdict_of n p q ≡ 1 → q ≡ 0
unfolding verdict_of
told_p n p zero e = refl
told_p n zero (suc q) e = absurd (omega arith)
told_p n (suc p) (suc q) e = absurd (omega (arith, located_large (first_exponent (quotient (suc q) (suc p) (suc-ne-zero p)) 0 n)))

pub told_q : (n p q : ℕ) → verdict_of n p q ≡ 2 → p ≡ 0
unfolding verdict_of
told_q n zero q e = refl
told_q n (suc p) zero e = absurd (omega arith)
told_q n (suc p) (suc q) e = absurd (omega (arith, located_large (first_exponent (quotient (suc q) (suc p) (suc-ne-zero p)) 0 n)))

-- equation 25, from the verdict
pub told_data : (n p q z : ℕ) → p < 256 → q < 256 → verdict_of n p q ≡ 16 + z → q ≡ product (power 2 z) p
unfolding verdict_of
told_data n zero zero z hp hq e = absurd (omega arith)
told_data n (suc p) zero z hp hq e = absurd (omega arith)
told_data n zero (suc q) z hp hq e = absurd (omega arith)
told_data n (suc p) (suc q) z hp hq e =
    let other = suc-ne-zero p in
    let v = quotient (suc q) (suc p) other in
    sym
    (ap (λ (x : ℕ). product x (suc p)) (found_is v n 0 (located_is (first_exponent v 0 n) e)).1
    ∙ product_assoc (suc q) (reciprocal (suc p) other) (suc p)
    ∙ ap (product (suc q)) (product_comm (reciprocal (suc p) other) (suc p) ∙ product_inverse (suc p) hp other)
    ∙ product_comm (suc q) 1
    ∙ product_one (suc q) hq)
