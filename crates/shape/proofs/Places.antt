-- Where the symbols of a stripe stand in its buffer, and the one law of `lift`.
-- Assumes nothing.
use Rattle.std.proofs.Common.{◌≡◌, ℕ, suc, ◌+◌, ◌/◌, ◌%◌, ◌<◌, ◌≤◌, List, length, get_or, sym, refl, ap, ◌∙◌, subst, ap₂, mul-le-mul_right, mod-lt, mod-eq_of_lt, suc-mul, div-lt_iff_lt-mul, div-add-mod', ext_get_or}
use mathlib.Core.Path.{fun_ext}
use lib.Arith.{digits_div, digits_mod, digits_lt}
use Rattle.shape.specs.declared.Geometry.{Geometry}
use Rattle.base.proofs.Table.{length_tabulate, get_d_tabulate}
use Rattle.column.specs.Column.{Column}
use Rattle.shape.specs.Layout.{start, low_start, size, column, role_at, column_at, lift}

-- ---- places
module _ (g : Geometry) {i : ℕ} (hi : i < g.b) where
  pub role_at_lem : (r : ℕ) → role_at g (start g r + i) ≡ r
  unfolding role_at start
  role_at_lem r = digits_div r hi

  pub column_at_lem : (r : ℕ) → column_at g (start g r + i) ≡ i
  unfolding column_at start
  column_at_lem r = digits_mod r hi

  pub within : {r : ℕ} → r < g.n + 2 → start g r + i < size g
  unfolding start
  within hr = digits_lt hr hi

-- where the numbers have no other bits than the low ones
pub low_start_lem : (g : Geometry) (r : ℕ) → g.b < 4294967296 → r < 4294967296 → low_start g r ≡ start g r
unfolding start
low_start_lem g r hb hr = rw (mod-eq_of_lt hb, mod-eq_of_lt hr)

-- a block ends where the next one begins, and within the stripe
pub block_end : (g : Geometry) (r : ℕ) → start g r + g.b ≡ start g (suc r)
unfolding start
block_end g r = sym (suc-mul r g.b)

pub start_mono : (g : Geometry) {r t : ℕ} → r ≤ t → start g r ≤ start g t
unfolding start
start_mono g h = mul-le-mul_right g.b h

pub start_end : (g : Geometry) → start g (g.n + 2) ≡ size g
unfolding start
start_end g = refl

-- the length of a lifted stripe, and what stands at each place of it
pub length_lift : (g : Geometry) (f : ℕ → Column → Column) (s : List ℕ) → length (lift g f s) ≡ length s
unfolding lift
length_lift g f s = length_tabulate (length s) (λ j. f (column_at g j) (column g s (column_at g j)) (role_at g j))

pub lift_at : (g : Geometry) (f : ℕ → Column → Column) (s : List ℕ) → length s ≡ size g → {i r : ℕ} → i < g.b → r < g.n + 2
    → column g (lift g f s) i r ≡ f i (column g s i) r
unfolding lift
lift_at g f s len {i} {r} hi hr =
    get_d_tabulate (length s) (λ j. f (column_at g j) (column g s (column_at g j)) (role_at g j)) (start g r + i) 0
    (subst (λ (n : ℕ). start g r + i < n) (sym len) (within g hi hr))
    ∙ ap₂ (λ (j t : ℕ). f j (column g s j) t) (column_at_lem g hi r) (role_at_lem g hi r)

-- functions that are the same on every column are so lifted
pub lift_same : (g : Geometry) {f h : Column → Column} (s : List ℕ) → ((c : Column) → f c ≡ h c) → lift g (λ i. f) s ≡ lift g (λ i. h) s
lift_same g s same = ap (λ (f : Column → Column). lift g (λ i. f) s) (fun_ext same)

-- two stripes are the same where all their columns are
pub by_columns : (g : Geometry) → 0 < g.b → (s t : List ℕ) → length s ≡ size g → length t ≡ size g
    → ((i r : ℕ) → i < g.b → r < g.n + 2 → column g s i r ≡ column g t i r)
    → s ≡ t
unfolding start
by_columns g pos s t hs ht same = ext_get_or 0 s t (hs ∙ sym ht) at
  where
    at : (j : ℕ) → j < length s → get_or s j 0 ≡ get_or t j 0
    at j h =
        subst (λ (k : ℕ). get_or s k 0 ≡ get_or t k 0) (div-add-mod' j g.b)
        (same (j % g.b) (j / g.b) (mod-lt j pos) ((div-lt_iff_lt-mul pos).1 (subst (λ (n : ℕ). j < n) hs h)))
