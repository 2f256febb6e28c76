-- The laws of a column with one symbol replaced.
-- Assumes nothing.
use mathlib.Core.Path.{◌≡◌, refl, sym, ap, fun_ext, ◌∙◌}
use mathlib.Core.Logic.{◌≢◌}
use Prim.Native.Nat.{ℕ}
use native.Mathlib.Decide.{ℕ_discrete}
use borrow.Author.Tests.{eq-eqb, ne_eqb}
use lib.Dec.{eqb}
use Rattle.base.specs.Choice.{choose}
use Rattle.column.specs.Column.{Column, put}

pub put_same : (d v : ℕ) (c : Column) → put d v c d ≡ v
put_same d v c = rw (eq-eqb d d refl)

pub put_other : (d v : ℕ) (c : Column) (r : ℕ) → r ≢ d → put d v c r ≡ c r
put_other d v c r h = rw (ne_eqb r d h)

-- two columns are the same where they are at one role and at every other
pub by_role : {c e : Column} (d : ℕ) → c d ≡ e d → ((r : ℕ) → r ≢ d → c r ≡ e r) → c ≡ e
by_role {c} {e} d here there = fun_ext λ r. at (ℕ_discrete r d)
  where
    at : {r : ℕ} → Dec (r ≡ d) → c r ≡ e r
    at (yes p) = rw p here
    at {r} (no p) = there r p

pub put_twice : (d v w : ℕ) (c : Column) → put d v (put d w c) ≡ put d v c
put_twice d v w c =
    by_role d (put_same d v (put d w c) ∙ sym (put_same d v c))
    (λ r h. put_other d v (put d w c) r h ∙ put_other d w c r h ∙ sym (put_other d v c r h))

pub put_comm : (d e v w : ℕ) (c : Column) → d ≢ e → put d v (put e w c) ≡ put e w (put d v c)
put_comm d e v w c h =
    by_role d (put_same d v (put e w c) ∙ sym (put_other e w (put d v c) d h ∙ put_same d v c))
    (λ r p. put_other d v (put e w c) r p ∙ ap (λ (x : ℕ). choose (eqb r e) w x) (sym (put_other d v c r p)))

pub put_back : (d : ℕ) (c : Column) → put d (c d) c ≡ c
put_back d c = by_role d (put_same d (c d) c) (put_other d (c d) c)
