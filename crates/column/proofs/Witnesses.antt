-- What the theorems about losses suppose can be met: every row of document 01's table of losses is a loss of devices that the stripe has, and
-- every role is named by a loss or spared.
-- Assumes nothing.
use mathlib.Core.Path.{◌≡◌}
use mathlib.Core.Logic.{◌≢◌, ◌⊎◌, inl, inr}
use Prim.Native.Nat.{ℕ, ◌<◌}
use native.Mathlib.Decide.{ℕ_discrete}
use native.Mathlib.Omega.{arith}
use Rattle.column.specs.declared.Device.{Device}
use Rattle.column.specs.declared.Device.TheVariants.{Data, P, Q}
use Rattle.column.specs.declared.Lost.TheVariants.{One, Two}
use Rattle.column.specs.Column.{role_of}
use Rattle.column.specs.Loss.{KnownLoss, Spared}

pub record TableOfLosses (n : ℕ) : Type 0 where
  pub one_data : (x : ℕ) → x < n → KnownLoss n (One (Data x))
  pub one_p : KnownLoss n (One P)
  pub one_q : KnownLoss n (One Q)
  pub data_and_p_lost : (x : ℕ) → x < n → KnownLoss n (Two (Data x) P) × KnownLoss n (Two P (Data x))
  pub data_and_q_lost : (x : ℕ) → x < n → KnownLoss n (Two (Data x) Q) × KnownLoss n (Two Q (Data x))
  pub p_and_q : KnownLoss n (Two P Q) × KnownLoss n (Two Q P)
  pub two_data_lem : (x y : ℕ) → x < n → y < n → x ≢ y → KnownLoss n (Two (Data x) (Data y))

pub table_of_losses : (n : ℕ) → TableOfLosses n
table_of_losses n =
    record {
      one_data = λ x h. h;
      one_p = tt;
      one_q = tt;
      data_and_p_lost = λ x h. ((h, tt, (λ e. omega arith)), (tt, h, (λ e. omega arith)));
      data_and_q_lost = λ x h. ((h, tt, (λ e. omega arith)), (tt, h, (λ e. omega arith)));
      p_and_q = ((tt, tt, (λ e. omega arith)), (tt, tt, (λ e. omega arith)));
      two_data_lem = λ x y hx hy n. (hx, hy, n);
    }

pub one_or_spared : (n : ℕ) (d : Device) (r : ℕ) → (r ≡ role_of n d) ⊎ Spared n (One d) r
one_or_spared n d r = go (ℕ_discrete r (role_of n d))
  where
    go : Dec (r ≡ role_of n d) → (r ≡ role_of n d) ⊎ Spared n (One d) r
    go (yes e) = inl e
    go (no other) = inr other

pub two_or_spared : (n : ℕ) (d e : Device) (r : ℕ) → (r ≡ role_of n d) ⊎ ((r ≡ role_of n e) ⊎ Spared n (Two d e) r)
two_or_spared n d e r = go (ℕ_discrete r (role_of n d)) (ℕ_discrete r (role_of n e))
  where
    go : Dec (r ≡ role_of n d) → Dec (r ≡ role_of n e) → (r ≡ role_of n d) ⊎ ((r ≡ role_of n e) ⊎ Spared n (Two d e) r)
    go (yes first) second = inl first
    go (no other) (yes second) = inr (inl second)
    go (no other) (no another) = inr (inr (other, another))
