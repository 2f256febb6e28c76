-- A known device's role is one of the n + 2; a loss puts what is given on the roles that it names, leaves those that it spares, which are
-- all others, and leaves symbols.
-- Assumes nothing.
use mathlib.Core.Path.{◌≡◌, refl}
use mathlib.Core.Bool.{Bool, true, false}
use Prim.Native.Nat.{ℕ, ◌+◌, ◌^◌, ◌<◌}
use native.Mathlib.Omega.{arith}
use borrow.Author.Tests.{eq-eqb, ne_eqb, eqb-false}
use lib.Dec.{eqb}
use Rattle.base.specs.Choice.{choose}
use Rattle.base.proofs.Choice.{either_false, either_comm}
use Rattle.column.specs.declared.Device.{Device}
use Rattle.column.specs.declared.Device.TheVariants.{Data, P, Q}
use Rattle.column.specs.declared.Lost.{Lost}
use Rattle.column.specs.declared.Lost.TheVariants.{One, Two}
use Rattle.column.specs.Column.{Column, role_of}
use Rattle.column.specs.Loss.{Known, Spared, named, overwrite}
use Rattle.column.specs.Lawful.{Symbols}

pub known_role : (n : ℕ) (d : Device) → Known n d → role_of n d < n + 2
known_role n (Data k) h = omega arith
known_role n P h = omega arith
known_role n Q h = omega arith

unnamed : (n : ℕ) (l : Lost) (r : ℕ) → Spared n l r → named n l r ≡ false
unnamed n (One d) r s = ne_eqb r (role_of n d) s
unnamed n (Two d e) r s = simp (ne_eqb r (role_of n d) s.0, ne_eqb r (role_of n e) s.1)

pub spared_of : (n : ℕ) (l : Lost) (r : ℕ) → named n l r ≡ false → Spared n l r
spared_of n (One d) r e = eqb-false r (role_of n d) e
spared_of n (Two d e) r h =
    let apart = either_false (eqb r (role_of n d)) (eqb r (role_of n e)) h in (eqb-false r (role_of n d) apart.0, eqb-false r (role_of n e) apart.1)

-- each device that is named has what was given
pub overwrite_one : (n : ℕ) (d : Device) (junk c : Column) → overwrite n (One d) junk c (role_of n d) ≡ junk (role_of n d)
overwrite_one n d junk c = rw (eq-eqb (role_of n d) (role_of n d) refl)

pub overwrite_first : (n : ℕ) (d e : Device) (junk c : Column) → overwrite n (Two d e) junk c (role_of n d) ≡ junk (role_of n d)
overwrite_first n d e junk c = rw (eq-eqb (role_of n d) (role_of n d) refl)

pub overwrite_second : (n : ℕ) (d e : Device) (junk c : Column) → overwrite n (Two d e) junk c (role_of n e) ≡ junk (role_of n e)
overwrite_second n d e junk c =
    rw (eq-eqb (role_of n e) (role_of n e) refl, either_comm (eqb (role_of n e) (role_of n d)) true)

pub overwrite_spares : (n : ℕ) (l : Lost) (junk c : Column) (r : ℕ) → Spared n l r → overwrite n l junk c r ≡ c r
overwrite_spares n l junk c r s = rw (unnamed n l r s)

pub overwrite_symbols : (w n : ℕ) (l : Lost) (junk c : Column) → Symbols w junk → Symbols w c → Symbols w (overwrite n l junk c)
overwrite_symbols w n l junk c hj hc r = go (named n l r)
  where
    go : (b : Bool) → choose b (junk r) (c r) < 2 ^ w
    go true = hj r
    go false = hc r
