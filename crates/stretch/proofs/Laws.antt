-- The laws of a stretch: in a stripe that has its columns it is what the columns hold, and setting it changes these columns alone.
-- Assumes nothing.
use mathlib.Core.Path.{◌≡◌, refl, sym, ap, ap₂, subst, fun_ext, ◌∙◌}
use mathlib.Core.Logic.{⊎_elim}
use mathlib.Core.Bool.{Bool, true, false}
use mathlib.Core.List.{List, ◌++◌}
use Prim.Native.Nat.{ℕ, ◌+◌, ◌-◌, ◌≤◌, ◌<◌}
use native.Mathlib.Omega.{arith}
use borrow.Author.Tests.{eqb-true, leb-true, ltb-true, ltb-false, lt-ltb, le-ltb, le-leb}
use lib.Dec.{eqb, ltb, leb}
use lib.ListN.{length, get_or, take, drop, replicate, length-take, length-drop, get_or-eq_default}
use lib.Seq.{get_or-take, get_or-drop}
use Rattle.base.specs.Choice.{choose, both}
use Rattle.base.specs.Table.{tabulate, spliced}
use Rattle.base.proofs.Choice.{both_true, below_or_not}
use Rattle.base.proofs.Table.{length_tabulate, get_d_tabulate, tabulate_same}
use Rattle.chunk.specs.Chunk.{width, each, stored, Holds}
use Rattle.chunk.proofs.Laws.{each_at, stored_short}
use Rattle.column.specs.Column.{Column, put}
use Rattle.shape.specs.declared.Geometry.{Geometry}
use Rattle.shape.specs.Layout.{start, low_start, column}
use Rattle.shape.specs.Refusals.{encode_refusal, WellShaped}
use Rattle.shape.specs.Columns.{ColumnsMapped}
use Rattle.shape.proofs.Accepts.{shape_accepts}
use Rattle.shape.proofs.Refused.{well_shaped}
use Rattle.shape.proofs.Columns.{shaped_same, columns_as, columns_count, columns_then}
use Rattle.shape.proofs.Places.{start_mono, start_end}
use Rattle.shape.proofs.Stretch.{block_start, stretch_inside, columns_set}
use Rattle.stretch.specs.Stretch.{has_columns, Has, column_of, has_stretch, set_on, PlacedAt}

-- ---- a part of a list that is lent from a place on
module _ (s : List ℕ) (at w : ℕ) (ends : at + w ≤ length s) where
  part : at + w - at ≡ w
  part = omega arith

  part_length : length (take w (drop at s)) ≡ w
  part_length = simp (length-take, length-drop) (omega arith)

  part_loaded : each (λ j. get_or (take (at + w - at) (drop at s)) j 0) ≡ each (λ j. choose (ltb j w) (get_or s (at + j) 0) 0)
  part_loaded =
      tabulate_same width
      (λ j l.
      ap (λ (k : ℕ). get_or (take k (drop at s)) j 0) part
      ∙ ⊎_elim (λ low. rw (lt-ltb j w low) (get_or-take w (drop at s) j 0 low ∙ get_or-drop at s j 0))
      (λ high. rw (le-ltb j w high) (get_or-eq_default (take w (drop at s)) 0 (omega (arith, part_length))))
      (below_or_not j w))

  part_stored : w ≤ width → (new : List ℕ) {m rest : List ℕ} → m ≡ stored (take (at + w - at) (drop at s)) new → rest ≡ drop (at + w) s
      → take at s ++ (m ++ rest) ≡ spliced s at (tabulate w (λ j. get_or new j 0))
  part_stored held new is after =
      ap₂ (λ (x y : List ℕ). take at s ++ (x ++ y))
      (is
      ∙ ap (λ (k : ℕ). stored (take k (drop at s)) new) part
      ∙ stored_short (take w (drop at s)) new (omega (arith, part_length))
      ∙ ap (λ (k : ℕ). tabulate k (λ j. get_or new j 0)) part_length)
      (after ∙ ap (λ (k : ℕ). drop (at + k) s) (sym (length_tabulate w (λ j. get_or new j 0))))

pub zeros : replicate width 0 ≡ each (λ j. 0)
unfolding tabulate
zeros = refl

-- every stripe has its first column
pub has_first : {g : Geometry} {s : List ℕ} → WellShaped g s → Has g s 0 1
has_first shaped = record { shaped = shaped; fits = omega (arith, shaped.some); held = omega arith }

pub has_same : {g : Geometry} {s t : List ℕ} {i w : ℕ} → Has g s i w → length t ≡ length s → Has g t i w
has_same h same = record { shaped = shaped_same h.shaped same; fits = h.fits; held = h.held }

module _ (g : Geometry) (s : List ℕ) (i w : ℕ) where
  pub has : has_columns g (length s) i w ≡ true → Has g s i w
  has e =
      let shape = both_true (eqb (encode_refusal g (length s)) 0) _ e in
      let short = both_true (leb w g.b) _ shape.1 in
      let begins = both_true (leb i (g.b - w)) (leb w width) short.1 in
      let low = leb-true w g.b short.0 in
      let high = leb-true i (g.b - w) begins.0 in
      record { shaped = well_shaped g s (eqb-true (encode_refusal g (length s)) 0 shape.0); fits = omega arith; held = leb-true w width begins.1 }

  pub has_true : Has g s i w → has_columns g (length s) i w ≡ true
  has_true h =
      let fits = h.fits in
      simp (shape_accepts g s h.shaped, le-leb w g.b (omega arith), le-leb i (g.b - w) (omega arith), le-leb w width h.held)

  column_none : has_columns g (length s) i w ≡ false → (j : ℕ) → column_of g s i w j ≡ (λ r. 0)
  unfolding column_of
  column_none none j = fun_ext λ r. rw none

  -- where the stripe has not these columns, what is worked out of each is that of 00
  pub unseen : has_columns g (length s) i w ≡ false → (f : Column → ℕ) → f (λ r. 0) ≡ 0 → replicate width 0 ≡ each (λ j. f (column_of g s i w j))
  unseen none f zero = zeros ∙ tabulate_same width (λ j p. sym (ap f (column_none none j) ∙ zero))

module _ {g : Geometry} {s : List ℕ} {i w : ℕ} (h : Has g s i w) where
  unknown_at : (t : Bool) (c : ℕ) {role : ℕ} → g.n + 2 ≤ role → choose t (column g s c role) 0 ≡ 0
  unknown_at true c {role} beyond = get_or-eq_default s 0 (omega (arith, h.shaped.whole, start_end g, start_mono g beyond))
  unknown_at false c beyond = refl

  pub column_of_lem : (j : ℕ) → j < w → column_of g s i w j ≡ column g s (i + j)
  unfolding column_of
  column_of_lem j p = fun_ext λ r. rw (has_true g s i w h, lt-ltb j w p)

  -- where it has them, that of the columns
  pub seen : (f : Column → ℕ) {l : List ℕ} → l ≡ each (λ j. f (column_of g s i w j)) → Holds w (λ j. f (column g s (i + j))) l
  seen f is j p =
      ap (λ (l : List ℕ). get_or l j 0) is ∙ each_at (λ j. f (column_of g s i w j)) j (omega (arith, h.held)) ∙ ap f (column_of_lem j p)

  -- what stands on a role that it has not
  unknown : {role : ℕ} → g.n + 2 ≤ role → replicate width 0 ≡ each (λ j. column_of g s i w j role)
  unfolding column_of
  unknown {role} beyond = zeros ∙ tabulate_same width (λ j l. sym (unknown_at (both (has_columns g (length s) i w) (ltb j w)) (i + j) beyond))

  stretch_true : {role : ℕ} → role < g.n + 2 → has_stretch g (length s) role i w ≡ true
  stretch_true {role} known = rw (has_true g s i w h, lt-ltb role (g.n + 2) known)

  -- a role that it has begins where `start` says, and its bytes lie in the buffer
  module _ {role : ℕ} (known : role < g.n + 2) {p : ℕ} (is : p ≡ low_start g role) where
    begins : p ≡ start g role
    begins = block_start g s role h.shaped known is

    pub ends : p + i + w ≤ length s
    ends = omega (arith, begins, stretch_inside g s role i w h.shaped known h.fits)

    pub there : PlacedAt g s role i w (p + i)
    there = record { has = h; known = known; is = omega (arith, begins); ends = ends }

  -- setting a role changes these columns alone
  pub set_columns : {role : ℕ} → role < g.n + 2 → (new : List ℕ) {t : List ℕ} → t ≡ set_on g role i w new s
      → ColumnsMapped g i w (λ j c. put role (get_or new j 0) c) s t
  set_columns {role} known new {t} is =
      let m = tabulate w (λ j. get_or new j 0) in
      let long = length_tabulate w (λ j. get_or new j 0) in
      subst (λ (t : List ℕ). ColumnsMapped g i w (λ j c. put role (get_or new j 0) c) s t) (sym (is ∙ rw (stretch_true known)))
      (columns_as (columns_count long (columns_set g s role i m h.shaped known (omega (arith, h.fits, long))))
      (λ j p. ap (λ (x : ℕ). put role x (column g s (i + j))) (get_d_tabulate w (λ j. get_or new j 0) j 0 p)))

-- a part that begins at its place
module _ {g : Geometry} {s : List ℕ} {role i w at : ℕ} (here : PlacedAt g s role i w at) where
  pub loaded_there : each (λ j. get_or (take (at + w - at) (drop at s)) j 0) ≡ each (λ j. column_of g s i w j role)
  unfolding column_of
  loaded_there = part_loaded s at w here.ends ∙ tabulate_same width (λ j l. rw (has_true g s i w here.has) (ap (λ (a : ℕ). choose (ltb j w) (get_or s a 0) 0) (omega (arith, here.is))))

  pub set_there : (new : List ℕ) {m rest : List ℕ} → m ≡ stored (take (at + w - at) (drop at s)) new → rest ≡ drop (at + w) s
      → take at s ++ (m ++ rest) ≡ set_on g role i w new s
  set_there new is_m after =
      part_stored s at w here.ends here.has.held new is_m after
      ∙ ap (λ (a : ℕ). spliced s a (tabulate w (λ j. get_or new j 0))) here.is
      ∙ sym (rw (stretch_true here.has here.known))

-- two roles set, y first
pub set_two : {g : Geometry} {s : List ℕ} {i w x y : ℕ} (h : Has g s i w) (new second : List ℕ) {t u : List ℕ} → x < g.n + 2 → y < g.n + 2 → t ≡ set_on g y i w second s
    → u ≡ set_on g x i w new t
    → ColumnsMapped g i w (λ j c. put x (get_or new j 0) (put y (get_or second j 0) c)) s u
set_two h new second known_x known_y is_t is_u =
    let first = set_columns h known_y second is_t in
    columns_then first (set_columns (has_same h first.kept) known_x new is_u)

-- what `has_stretch` tells
module _ (g : Geometry) (s : List ℕ) (role i w : ℕ) where
  -- where the bytes of a role begin that it has there
  pub placed : {on : Bool} → on ≡ has_stretch g (length s) role i w → on ≡ true → {p : ℕ} → p ≡ low_start g role → PlacedAt g s role i w (p + i)
  placed is_on e is =
      let parts = both_true (has_columns g (length s) i w) (ltb role (g.n + 2)) (sym is_on ∙ e) in
      there (has g s i w parts.0) (ltb-true role (g.n + 2) parts.1) is

  pub no_stretch : has_stretch g (length s) role i w ≡ false → replicate width 0 ≡ each (λ j. column_of g s i w j role)
  no_stretch = go (has_columns g (length s) i w) refl
    where
      go : (t : Bool) → has_columns g (length s) i w ≡ t → both t (ltb role (g.n + 2)) ≡ false → replicate width 0 ≡ each (λ j. column_of g s i w j role)
      go true e none = unknown (has g s i w e) (ltb-false role (g.n + 2) none)
      go false e none = unseen g s i w e (λ c. c role) refl
