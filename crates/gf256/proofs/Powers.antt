-- Powers, logarithms and inverses. The powers of 02 are the table's entries, by the table's rules; the 255 of them are all the nonzero
-- elements, which gives every other law.
-- Assumes nothing.
use mathlib.Core.Path.{◌≡◌, refl, sym, ap, ap₂, subst, ◌∙◌}
use mathlib.Core.Bool.{Bool, true, false}
use mathlib.Core.Logic.{◌≢◌, ◌↔◌}
use Rattle.std.specs.Prelude.{Some, None}
use Prim.Native.Nat.{ℕ, zero, suc, ◌+◌, ◌-◌, ◌*◌, ◌/◌, ◌%◌, ◌≤◌, ◌<◌, suc-le-suc}
use native.Mathlib.Nat.{add-zero, zero-add, suc-add, mul-suc, mul-zero, mod-lt, mod-eq_of_lt, div-add-mod', zero-lt-suc, not-suc-le-zero, mul_comm, suc-ne-zero, lt_irrefl, ne_of_lt, lt_trans, le_of_suc-le-suc}
use native.Mathlib.Numerals.{add-one}
use native.Mathlib.Omega.{arith}
use borrow.Author.Tests.{eqb-true, eq-eqb, ne_eqb}
use lib.Dec.{eqb, lit<}
use lib.Bits.{xor_lt, xor_self}
use lib.ListN.{get_or}
use Rattle.gf256.specs.declared.Element.{Element}
use Rattle.gf256.specs.Field.{element, sum, double, product, power, reciprocal, quotient, inverse, first_exponent, logarithm, ExponentOf}
use Rattle.gf256.proofs.Check.{same_at}
use Rattle.gf256.proofs.Xor.{xor_zero}
use Rattle.gf256.proofs.Additive.{Additive, additive_sum}
use Rattle.gf256.proofs.Product.{product_left, product_right, product_lt, product_comm, product_assoc, product_one, product_zero, zero_product, double_product}
use Rattle.gf256.proofs.Tables.{powers, logarithms}
use Rattle.gf256.proofs.TableRules.{powers_first, powers_next, powers_nonzero}
use Rattle.gf256.proofs.TableRules

-- ---- powers of any element
pub power_lt : (x e : ℕ) → power x e < 256
unfolding power
power_lt x zero = lit< tt
power_lt x (suc e) = product_lt x (power x e)

pub power_add : (x i j : ℕ) → power x (i + j) ≡ product (power x i) (power x j)
unfolding power
power_add x zero j = ap (power x) (zero-add j) ∙ sym (product_one (power x j) (power_lt x j))
power_add x (suc i) j =
    ap (power x) (suc-add i j) ∙ ap (product x) (power_add x i j) ∙ sym (product_assoc x (power x i) (power x j))

pub power_mul : (x i j : ℕ) → power x (i * j) ≡ power (power x i) j
unfolding power
power_mul x i zero = ap (power x) (mul-zero i)
power_mul x i (suc j) =
    ap (power x) (mul-suc i j)
    ∙ power_add x (i * j) i
    ∙ product_comm (power x (i * j)) (power x i)
    ∙ ap (product (power x i)) (power_mul x i j)

pub power_of_one : (e : ℕ) → power 1 e ≡ 1
unfolding power
power_of_one zero = refl
power_of_one (suc e) = ap (product 1) (power_of_one e) ∙ product_one 1 (lit< tt)

-- ---- powers of 02
double_power : (e : ℕ) → power 2 (suc e) ≡ double (power 2 e)
unfolding power
double_power e = sym (double_product (power 2 e) (power_lt 2 e))

pub power_entry : (e : ℕ) → e < 255 → power 2 e ≡ get_or powers e 0
power_entry zero h = start ∙ sym powers_first
  where
    start : power 2 zero ≡ 1
    start = unfold power in refl
power_entry (suc e) h =
    double_power e
    ∙ ap double (power_entry e (omega arith))
    ∙ sym (powers_next e (omega arith))
    ∙ ap (λ (n : ℕ). get_or powers n 0) (mod-eq_of_lt (omega arith) ∙ add-one e)

pub power_order : power 2 255 ≡ 1
power_order = double_power 254 ∙ ap double (power_entry 254 (lit< tt)) ∙ sym (powers_next 254 (lit< tt)) ∙ powers_first

-- an element whose 255th power is 01: its exponents count modulo 255
power_cycle : (x : ℕ) → power x 255 ≡ 1 → (e : ℕ) → power x (e % 255) ≡ power x e
power_cycle x one e =
    sym
    (ap (power x) (sym (div-add-mod' e 255) ∙ ap (λ (n : ℕ). n + e % 255) (mul_comm (e / 255) 255))
    ∙ power_add x (255 * (e / 255)) (e % 255)
    ∙ ap (λ (n : ℕ). product n (power x (e % 255))) (power_mul x 255 (e / 255) ∙ ap (λ (n : ℕ). power n (e / 255)) one ∙ power_of_one (e / 255))
    ∙ product_one (power x (e % 255)) (power_lt x (e % 255)))

pub power_of_two_mod : (e : ℕ) → power 2 (e % 255) ≡ power 2 e
power_of_two_mod = power_cycle 2 power_order

-- 00 is no power of 02, so it has no logarithm, and every division by such a power is one
pub power_of_two_nonzero : (e : ℕ) → power 2 e ≢ 0
power_of_two_nonzero e z =
    lt_irrefl 0 (subst (λ (n : ℕ). 0 < n) (sym (power_entry (e % 255) below) ∙ power_of_two_mod e ∙ z) (powers_nonzero (e % 255) below))
  where
    below : e % 255 < 255
    below = mod-lt e (zero-lt-suc 254)

-- 02 has order 255
pub power_of_two_injective : (i j : ℕ) → i < 255 → j < 255 → power 2 i ≡ power 2 j → i ≡ j
power_of_two_injective i j hi hj h =
    sym (TableRules.logarithm_power i hi)
    ∙ ap (λ (n : ℕ). get_or logarithms (n - 1) 0) (sym (power_entry i hi) ∙ h ∙ power_entry j hj)
    ∙ TableRules.logarithm_power j hj

-- ---- the elements other than 00 are the powers of 02
pub exponent_entry : (x : ℕ) → x < 255 → ExponentOf (suc x) (get_or logarithms x 0)
exponent_entry x h =
    record { below = below; is = power_entry (get_or logarithms x 0) below ∙ TableRules.power_logarithm x h }
  where
    below : get_or logarithms x 0 < 255
    below = TableRules.logarithm_below x h

-- every element other than 00 has an exponent
pub exponent_of : (x : ℕ) → x < 256 → x ≢ 0 → (l : ℕ) × ExponentOf x l
exponent_of zero h n = absurd (n refl)
exponent_of (suc x) h n = (get_or logarithms x 0, exponent_entry x (le_of_suc-le-suc h))

pub power_255 : (x : ℕ) → x < 256 → x ≢ 0 → power x 255 ≡ 1
power_255 x h n =
    let l = exponent_of x h n in
    ap (λ (y : ℕ). power y 255) (sym l.1.is)
    ∙ sym (power_mul 2 l.0 255)
    ∙ ap (power 2) (mul_comm l.0 255)
    ∙ power_mul 2 255 l.0
    ∙ ap (λ (y : ℕ). power y l.0) power_order
    ∙ power_of_one l.0

pub power_mod : (x : ℕ) → x < 256 → x ≢ 0 → (e : ℕ) → power x (e % 255) ≡ power x e
power_mod x h n = power_cycle x (power_255 x h n)

pub power_none : (x : ℕ) → power x 0 ≡ 1
unfolding power
power_none x = refl

pub power_zero : (e : ℕ) → e ≢ 0 → power 0 e ≡ 0
unfolding power
power_zero zero n = absurd (n refl)
power_zero (suc e) n = zero_product (power 0 e)

-- B·B^-1 is 01
pub product_inverse : (x : ℕ) → x < 256 → (other : x ≢ 0) → product x (reciprocal x other) ≡ 1
product_inverse x h other = sym (step 254) ∙ power_255 x h other
  where
    step : (e : ℕ) → power x (suc e) ≡ product x (power x e)
    step e = unfold power in refl

-- ---- by exponents
module _ {x l : ℕ} (has : ExponentOf x l) where
  exponent_nonzero : x ≢ 0
  exponent_nonzero e = power_of_two_nonzero l (has.is ∙ e)

  exponent_byte : x < 256
  exponent_byte = subst (λ (y : ℕ). y < 256) has.is (power_lt 2 l)

  pub power_by_exponent : (e : ℕ) → power x e ≡ power 2 (l * (e % 255) % 255)
  power_by_exponent e =
      sym (power_mod x exponent_byte exponent_nonzero e)
      ∙ ap (λ (y : ℕ). power y (e % 255)) (sym has.is)
      ∙ sym (power_mul 2 l (e % 255))
      ∙ sym (power_of_two_mod (l * (e % 255)))

  pub reciprocal_by_exponent : (other : x ≢ 0) → reciprocal x other ≡ power 2 ((255 - l) % 255)
  reciprocal_by_exponent other = power_by_exponent 254 ∙ ap (power 2) (negated l has.below)
    where
      negated : (l : ℕ) → l < 255 → l * 254 % 255 ≡ (255 - l) % 255
      negated = same_at 255 (λ l. l * 254 % 255) (λ l. (255 - l) % 255) tt

  pub product_by_exponents : {y m : ℕ} → ExponentOf y m → product x y ≡ power 2 ((l + m) % 255)
  product_by_exponents {m = m} has2 = ap₂ product (sym has.is) (sym has2.is) ∙ sym (power_add 2 l m) ∙ sym (power_of_two_mod (l + m))

pub product_nonzero : (a b : ℕ) → a < 256 → b < 256 → a ≢ 0 → b ≢ 0 → product a b ≢ 0
product_nonzero a b ha hb na nb z =
    let i = exponent_of a ha na in
    let j = exponent_of b hb nb in
    power_of_two_nonzero ((i.0 + j.0) % 255) (sym (product_by_exponents i.1 j.1) ∙ z)

-- Q*/P* is not 00 where neither is
pub quotient_nonzero : (a b : ℕ) → a < 256 → b < 256 → a ≢ 0 → (other : b ≢ 0) → quotient a b other ≢ 0
quotient_nonzero a b ha hb na other =
    product_nonzero a (reciprocal b other) ha (power_lt b 254) na
    (λ z. power_of_two_nonzero 0 (unfold power in sym (product_inverse b hb other) ∙ ap (product b) z ∙ product_zero b))

-- ---- what `inverse` and `logarithm` answer: none for 00 alone
pub inverse_is : (x : ℕ) → (other : x ≢ 0) → inverse x ≡ Some (element (reciprocal x other))
unfolding inverse
inverse_is zero other = absurd (other refl)
inverse_is (suc x) other = refl

pub inverse_none : (x : ℕ) → (inverse x ≡ None) ↔ (x ≡ 0)
unfolding inverse
inverse_none zero = (λ e. refl, λ e. refl)
inverse_none (suc x) = (λ e. cc, λ e. absurd (suc-ne-zero x e))

-- what an answer tells: an inverse is the one by which A/B is defined
pub inverse_value : (x : ℕ) {e : Element} (other : x ≢ 0) → inverse x ≡ Some e → e.0 ≡ reciprocal x other
inverse_value x other e = let is = inverse_is x other in cc

-- the search for an exponent
first_is : (x k e l : ℕ) → l < k → ((j : ℕ) → j < l → power 2 (e + j) ≢ x) → power 2 (e + l) ≡ x → first_exponent x e k ≡ Some (e + l)
unfolding first_exponent
first_is x zero e l h misses hit = absurd (not-suc-le-zero h)
first_is x (suc k) e zero h misses hit =
    let now : eqb (power 2 e) x ≡ true = eq-eqb (power 2 e) x (ap (power 2) (sym (add-zero e)) ∙ hit) in
    rw (now, first_exponent, add-zero)
first_is x (suc k) e (suc l) h misses hit =
    let now : eqb (power 2 e) x ≡ false = ne_eqb (power 2 e) x (λ q. misses 0 (zero-lt-suc l) (ap (power 2) (add-zero e) ∙ q)) in
    rw (now, first_exponent)
    (first_is x k (suc e) l (le_of_suc-le-suc h) (λ j p q. misses (suc j) (suc-le-suc p) (ap (power 2) (sym (step j)) ∙ q)) (ap (power 2) (step l) ∙ hit) ∙ ap Some (step l))
  where
    step : (j : ℕ) → suc e + j ≡ e + suc j
    step j = omega arith

first_none : (x k e : ℕ) → ((j : ℕ) → j < e + k → power 2 j ≢ x) → first_exponent x e k ≡ None
unfolding first_exponent
first_none x zero e misses = refl
first_none x (suc k) e misses =
    rw (ne_eqb (power 2 e) x (misses e (omega arith)), first_exponent) (first_none x k (suc e) (λ j p. misses j (omega arith)))

-- what is found is one of the k, and the exponent of x
pub found_is : (x k e : ℕ) {l : ℕ} → first_exponent x e k ≡ Some l → (l < e + k) × (power 2 l ≡ x)
unfolding first_exponent
found_is x zero e is = absurd (suc-ne-zero 0 cc)
found_is x (suc k) e {l} is = go (eqb (power 2 e) x) refl (found_is x k (suc e)) is
  where
    go : (b : Bool) → eqb (power 2 e) x ≡ b → (first_exponent x (suc e) k ≡ Some l → (l < suc e + k) × (power 2 l ≡ x))
        → elim b [ true ↦ Some e | false ↦ first_exponent x (suc e) k ] ≡ Some l
        → (l < e + suc k) × (power 2 l ≡ x)
    go true here later h = let same : e ≡ l = cc in (omega arith, ap (power 2) (sym same) ∙ eqb-true (power 2 e) x here)
    go false here later h = (omega (arith, (later h).0), (later h).1)

-- the search below k finds the exponent if it is there
module _ {x l : ℕ} (has : ExponentOf x l) where
  no_other : (j : ℕ) → j < l → power 2 j ≢ x
  no_other j p e = ne_of_lt p (power_of_two_injective j l (lt_trans p has.below) has.below (e ∙ sym has.is))

  pub exponent_within : {k : ℕ} → l < k → first_exponent x 0 k ≡ Some l
  exponent_within {k} h =
      first_is x k 0 l h (λ j p e. no_other j p (ap (power 2) (sym (zero-add j)) ∙ e)) (ap (power 2) (zero-add l) ∙ has.is)
      ∙ ap Some (zero-add l)

  pub exponent_beyond : {k : ℕ} → k ≤ l → first_exponent x 0 k ≡ None
  exponent_beyond {k} h = first_none x k 0 (λ j p. no_other j (omega arith))

  pub logarithm_is : logarithm x ≡ Some l
  unfolding logarithm
  logarithm_is = exponent_within has.below

pub logarithm_zero : logarithm 0 ≡ None
unfolding logarithm
logarithm_zero = first_none 0 _ 0 (λ j p. power_of_two_nonzero j)

pub logarithm_none : (x : ℕ) → x < 256 → (logarithm x ≡ None) ↔ (x ≡ 0)
logarithm_none zero h = (λ e. refl, λ e. logarithm_zero)
logarithm_none (suc x) h =
    let has = logarithm_is (exponent_entry x (le_of_suc-le-suc h)) in (λ e. cc, λ e. absurd (suc-ne-zero x e))

pub logarithm_power_of_two : (e : ℕ) → e < 255 → logarithm (power 2 e) ≡ Some e
logarithm_power_of_two e h = logarithm_is (record { below = h; is = refl })

-- a logarithm is the exponent of its element
pub logarithm_exponent : (x : ℕ) {l : ℕ} → x < 256 → logarithm x ≡ Some l → ExponentOf x l
logarithm_exponent zero h e = let none = logarithm_zero in absurd (suc-ne-zero 0 cc)
logarithm_exponent (suc x) {l} h e =
    let has = exponent_entry x (le_of_suc-le-suc h) in
    let is = logarithm_is has in
    subst (λ (m : ℕ). ExponentOf (suc x) m) (let same : get_or logarithms x 0 ≡ l = cc in same) has

pub exponent_below : (x l : ℕ) → x < 256 → logarithm x ≡ Some l → l < 255
exponent_below x l h e = (logarithm_exponent x h e).below

-- the inverse by the logarithm
pub inverse_by_logarithm : (x : ℕ) {l : ℕ} → x < 256 → logarithm x ≡ Some l → inverse x ≡ Some (element (power 2 ((255 - l) % 255)))
inverse_by_logarithm x h e =
    let has = logarithm_exponent x h e in
    let other = exponent_nonzero has in
    inverse_is x other ∙ ap (λ (v : ℕ). Some (element v)) (reciprocal_by_exponent has other)

pub inverse_without : (x : ℕ) → x < 256 → logarithm x ≡ None → inverse x ≡ None
inverse_without x h e = (inverse_none x).1 ((logarithm_none x h).0 e)

-- the sum of the logarithms, modulo 255
pub logarithm_product : {a b i j : ℕ} → ExponentOf a i → ExponentOf b j → logarithm (product a b) ≡ Some ((i + j) % 255)
logarithm_product {i = i} {j} ha hb =
    ap logarithm (product_by_exponents ha hb) ∙ logarithm_power_of_two ((i + j) % 255) (mod-lt (i + j) (zero-lt-suc 254))

-- ---- one-to-one: the two facts that RAID-6 rests on, each as "only 00 goes to 00"
pub product_only_zero : (c x : ℕ) → c < 256 → x < 256 → c ≢ 0 → product c x ≡ 0 → x ≡ 0
product_only_zero c zero hc hx nc z = refl
product_only_zero c (suc x) hc hx nc z = absurd (product_nonzero c (suc x) hc hx nc (suc-ne-zero x) z)

pub powers_only_zero : (i j x : ℕ) → i < 255 → j < 255 → i ≢ j → x < 256 → sum (product (power 2 i) x) (product (power 2 j) x) ≡ 0 → x ≡ 0
powers_only_zero i j x hi hj n hx z =
    product_only_zero (sum (power 2 i) (power 2 j)) x (xor_lt 8 (power 2 i) (power 2 j) (power_lt 2 i) (power_lt 2 j)) hx
    (λ e. n (power_of_two_injective i j hi hj (xor_zero (power 2 i) (power 2 j) e)))
    (product_left x (power 2 i) (power 2 j) ∙ z)

-- so both maps are one-to-one: an additive map is where only 00 goes to 00
one_to_one : (f : ℕ → ℕ) → Additive f → ((x : ℕ) → x < 256 → f x ≡ 0 → x ≡ 0) → (x y : ℕ) → x < 256 → y < 256 → f x ≡ f y → x ≡ y
one_to_one f add only_zero x y hx hy e =
    xor_zero x y (only_zero (sum x y) (xor_lt 8 x y hx hy) (add x y ∙ ap (λ (n : ℕ). sum n (f y)) e ∙ xor_self (f y)))

pub product_one_to_one : (c : ℕ) → c < 256 → c ≢ 0 → (x y : ℕ) → x < 256 → y < 256 → product c x ≡ product c y → x ≡ y
product_one_to_one c hc nc = one_to_one (product c) (product_right c) (λ x hx. product_only_zero c x hc hx nc)

pub powers_one_to_one : (i j : ℕ) → i < 255 → j < 255 → i ≢ j → (x y : ℕ) → x < 256 → y < 256
    → sum (product (power 2 i) x) (product (power 2 j) x) ≡ sum (product (power 2 i) y) (product (power 2 j) y)
    → x ≡ y
powers_one_to_one i j hi hj n =
    one_to_one (λ x. sum (product (power 2 i) x) (product (power 2 j) x))
    (additive_sum (product (power 2 i)) (product (power 2 j)) (product_right (power 2 i)) (product_right (power 2 j)))
    (λ x hx. powers_only_zero i j x hi hj n hx)
