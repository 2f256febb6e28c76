-- A `match` on a number whose arms count up from 0, each with what f has at its number, gives what f has at the number that it tests.
-- Assumes nothing.
use mathlib.Core.Path.{◌≡◌, sym, ap, ◌∙◌}
use mathlib.Core.Logic.{◌⊎◌, ⊎_elim}
use Prim.Native.Nat.{ℕ, zero, suc, ◌≤◌, ◌<◌}
use native.Mathlib.Nat.{eq-or-lt_of_le}
use native.Mathlib.Omega.{arith}

-- what the last arm knows: the number is none of those of the arms before it
unfoldable pub NoneBelow : ℕ → ℕ → Type 0
NoneBelow zero c = Unit
NoneBelow (suc n) c = NoneBelow n c × (c ≡ n → ⊥)

none_below : (n c : ℕ) → NoneBelow n c → n ≤ c
unfolding NoneBelow
none_below zero c h = omega arith
none_below (suc n) c h = ⊎_elim (λ e. absurd (h.1 (sym e))) (λ l. l) (eq-or-lt_of_le (none_below n c h.0))

-- whichever of the arms from the nth on control came by, r is what f has at c
pub data From {R : Type 0} (f : ℕ → R) (c : ℕ) (r : R) (n : ℕ) (A : Type 0) : Type 0 where
  from : (A → r ≡ f c) → From f c r n A

pub by_arms : {R : Type 0} (f : ℕ → R) (c : ℕ) (r : R) {A : Type 0} → A → From f c r 0 A → r ≡ f c
by_arms f c r w (from is) = is w

at : {R : Type 0} (f : ℕ → R) {c n : ℕ} {r : R} {A : Type 0} → (A → c ≡ n) → (a : A) × (r ≡ f n) → r ≡ f c
at f key w = w.1 ∙ ap f (sym (key w.0))

module _ {R : Type 0} {f : ℕ → R} {c : ℕ} {r : R} {n : ℕ} where
  infixr 5 ◌▹◌
  pub ◌▹◌ : {A B : Type 0} → (A → c ≡ n) → From f c r (suc n) B → From f c r n (((a : A) × (r ≡ f n)) ⊎ B)
  key ▹ from rest = from (⊎_elim (at f key) rest)

  pub last : {A : Type 0} → c < suc n → (A → NoneBelow n c) → From f c r n ((a : A) × (r ≡ f n))
  last h none = from (at f (λ a. let least = none_below n c (none a) in omega arith))
