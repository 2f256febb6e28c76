-- The rules of the tables of powers and logarithms, each computed once over all of its entries: a power is 02 times the one before it,
-- and after the last comes the first again, and none is 00; the logarithm undoes the power, and the power the logarithm.
-- Assumes nothing.
use mathlib.Core.Path.{◌≡◌, refl}
use Prim.Native.Nat.{ℕ, suc, ◌+◌, ◌-◌, ◌%◌, ◌<◌}
use lib.Dec.{T, ltb, ltb→lt}
use lib.ListN.{get_or}
use Rattle.gf256.specs.Field.{double}
use Rattle.gf256.proofs.Check.{all, all_at, same, same_at}
use Rattle.gf256.proofs.Tables.{powers, logarithms}

pub powers_first : get_or powers 0 0 ≡ 1
unfolding powers
powers_first = refl

next_tested : T (same 255 (λ e. get_or powers ((e + 1) % 255) 0) (λ e. double (get_or powers e 0)))
unfolding powers double
next_tested = tt

pub powers_next : (e : ℕ) → e < 255 → get_or powers ((e + 1) % 255) 0 ≡ double (get_or powers e 0)
powers_next = same_at 255 (λ e. get_or powers ((e + 1) % 255) 0) (λ e. double (get_or powers e 0)) next_tested

nonzero_tested : T (all 255 (λ e. ltb 0 (get_or powers e 0)))
unfolding powers
nonzero_tested = tt

pub powers_nonzero : (e : ℕ) → e < 255 → 0 < get_or powers e 0
powers_nonzero e h = ltb→lt 0 (get_or powers e 0) (all_at 255 (λ e. ltb 0 (get_or powers e 0)) nonzero_tested e h)

-- entry x of the logarithms is that of x + 1
logarithm_tested : T (same 255 (λ e. get_or logarithms (get_or powers e 0 - 1) 0) (λ e. e))
unfolding powers logarithms
logarithm_tested = tt

pub logarithm_power : (e : ℕ) → e < 255 → get_or logarithms (get_or powers e 0 - 1) 0 ≡ e
logarithm_power = same_at 255 (λ e. get_or logarithms (get_or powers e 0 - 1) 0) (λ e. e) logarithm_tested

power_tested : T (same 255 (λ x. get_or powers (get_or logarithms x 0) 0) suc)
unfolding powers logarithms
power_tested = tt

pub power_logarithm : (x : ℕ) → x < 255 → get_or powers (get_or logarithms x 0) 0 ≡ suc x
power_logarithm = same_at 255 (λ x. get_or powers (get_or logarithms x 0) 0) suc power_tested

below_tested : T (all 255 (λ x. ltb (get_or logarithms x 0) 255))
unfolding logarithms
below_tested = tt

pub logarithm_below : (x : ℕ) → x < 255 → get_or logarithms x 0 < 255
logarithm_below x h = ltb→lt (get_or logarithms x 0) 255 (all_at 255 (λ x. ltb (get_or logarithms x 0) 255) below_tested x h)
