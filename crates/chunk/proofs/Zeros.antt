-- The laws of the test for zeros: one place more, and what it says of each place.
-- Assumes nothing.
use mathlib.Core.Path.{◌≡◌, refl, ap}
use mathlib.Core.Bool.{true}
use mathlib.Core.List.{List}
use mathlib.Core.Logic.{⊎_elim}
use Prim.Native.Nat.{ℕ, zero, suc, ◌<◌}
use native.Mathlib.Nat.{le_of_suc-le-suc, not-suc-le-zero, suc-ne-zero, eq-or-lt_of_le}
use native.Mathlib.Omega.{arith}
use borrow.Author.Tests.{eqb-true, ne_eqb}
use lib.Dec.{eqb}
use lib.Bits.{bit_or, or_zero_r, or_add_and, and_le_l}
use lib.ListN.{get_or}
use Rattle.base.specs.Choice.{both}
use Rattle.base.proofs.Choice.{both_true}
use Rattle.chunk.specs.Chunk.{width, zeros, all_zero}

-- an or is 0 just where both are
pub or_zero : (r v : ℕ) → eqb (bit_or r v) 0 ≡ both (eqb v 0) (eqb r 0)
or_zero r zero = ap (λ (x : ℕ). eqb x 0) (or_zero_r r)
or_zero r (suc v) =
    rw (ne_eqb (suc v) 0 (suc-ne-zero v))
    (ne_eqb (bit_or r (suc v)) 0 (λ z. omega (arith, or_add_and r (suc v), and_le_l r (suc v))))

-- r gathers the bits of the places below n, and then those of place n too
pub zeros_more : (p q : List ℕ) (n r : ℕ) → eqb r 0 ≡ zeros n p q
    → eqb (bit_or (bit_or r (get_or p n 0)) (get_or q n 0)) 0 ≡ zeros (suc n) p q
unfolding zeros
zeros_more p q n r e = rw (or_zero (bit_or r (get_or p n 0)), or_zero r, e)

zeros_at : (p q : List ℕ) (n : ℕ) → zeros n p q ≡ true → (j : ℕ) → j < n → (get_or p j 0 ≡ 0) × (get_or q j 0 ≡ 0)
unfolding zeros
zeros_at p q zero e j h = absurd (not-suc-le-zero h)
zeros_at p q (suc n) e j h =
    let b = both_true (eqb (get_or q n 0) 0) (both (eqb (get_or p n 0) 0) (zeros n p q)) e in
    let a = both_true (eqb (get_or p n 0) 0) (zeros n p q) b.1 in
    ⊎_elim (λ m. rw m (eqb-true (get_or p n 0) 0 a.0, eqb-true (get_or q n 0) 0 b.0)) (λ l. zeros_at p q n a.1 j l)
    (eq-or-lt_of_le (le_of_suc-le-suc h))

pub all_zero_at : (p q : List ℕ) → all_zero p q ≡ true → (j : ℕ) → j < width → (get_or p j 0 ≡ 0) × (get_or q j 0 ≡ 0)
all_zero_at p q = zeros_at p q width

zeros_all : (p q : List ℕ) (n : ℕ) → ((j : ℕ) → j < n → (get_or p j 0 ≡ 0) × (get_or q j 0 ≡ 0)) → zeros n p q ≡ true
unfolding zeros
zeros_all p q zero each = refl
zeros_all p q (suc n) each =
    let here = each n (omega arith) in
    rw (here.0, here.1) (zeros_all p q n (λ j h. each j (omega arith)))

pub zero_all : (p q : List ℕ) → ((j : ℕ) → j < width → (get_or p j 0 ≡ 0) × (get_or q j 0 ≡ 0)) → all_zero p q ≡ true
zero_all p q = zeros_all p q width
