-- The test of a plan's roles; what a plan makes of a stripe that has them, column after column; the sums without two roles, as the columns have
-- them, and without both parities; what setting the solved bytes makes of some columns; and encode as a rebuild of both parities.
-- Assumes nothing.
use mathlib.Core.Path.{◌≡◌, refl, sym, ap, ap₂, ◌∙◌}
use mathlib.Core.Bool.{true}
use Prim.Native.Nat.{ℕ, ◌+◌, ◌-◌, ◌≤◌, ◌<◌, min}
use native.Mathlib.Omega.{arith}
use borrow.Author.Tests.{ltb-true, lt-ltb}
use lib.Dec.{ltb}
use lib.ListN.{get_or}
use mathlib.Core.List.{List}
use Rattle.base.proofs.Choice.{both_true}
use Rattle.base.proofs.Table.{tabulate_same}
use Rattle.gf256.specs.Field.{element, sum}
use Rattle.gf256.proofs.Laws.{zero_product, sum_zero}
use Rattle.column.specs.Column.{Column, parity_q, syndrome_p, syndrome_q, encode_column, reed_solomon}
use Rattle.losses.specs.declared.Pair.{Pair}
use Rattle.losses.specs.declared.Plan.{Plan}
use Rattle.losses.specs.declared.Restored.{Restored}
use Rattle.losses.specs.declared.Rule.{Rule}
use Rattle.losses.specs.declared.Plan.TheVariants.{ByP, FromData, ByBoth}
use Rattle.losses.specs.declared.Rule.TheVariants.{Carried}
use Rattle.losses.specs.Losses.{without, solution, solutions, solved, restored_by, KnownPlan}
use Rattle.losses.proofs.Again.{restored_again}
use Rattle.losses.proofs.Without.{solved_as, parities_lost}
use Rattle.shape.specs.declared.Geometry.{Geometry}
use Rattle.shape.specs.Layout.{column, lift}
use Rattle.shape.specs.Refusals.{WellShaped}
use Rattle.shape.specs.Columns.{ColumnsMapped}
use Rattle.shape.proofs.Accepts.{shape_accepts}
use Rattle.shape.proofs.Columns.{shaped_same, columns_as, columns_none, columns_count, columns_again, columns_all}
use Rattle.chunk.specs.Chunk.{width, Holds}
use Rattle.chunk.proofs.Laws.{each_at}
use Rattle.chunk.specs.declared.Sums.{Sums}
use Rattle.stretch.specs.Stretch.{Has, column_of, set_on}
use Rattle.stretch.proofs.Laws.{seen, set_two}
use Rattle.sums.specs.Sums.{parities_of, sums_of}
use Rattle.sums.specs.Strip.{strip, HasStrip}
use Rattle.restore.specs.Restore.{known_plan, restored, Survivors}

-- what the test of a plan's roles says, and that it passes
pub known : (n : ℕ) (plan : Plan) → known_plan n plan ≡ true → KnownPlan n plan
known n (ByP x) e = ltb-true x (n + 2) e
known n (FromData with_p) e = tt
known n (ByBoth pair rule) e = let roles = both_true (ltb pair.x (n + 2)) (ltb pair.y (n + 2)) e in (ltb-true pair.x (n + 2) roles.0, ltb-true pair.y (n + 2) roles.1)

pub known_true : (n : ℕ) (plan : Plan) → KnownPlan n plan → known_plan n plan ≡ true
known_true n (ByP x) h = lt-ltb x (n + 2) h
known_true n (FromData with_p) h = refl
known_true n (ByBoth pair rule) h = rw (lt-ltb pair.x (n + 2) h.0, lt-ltb pair.y (n + 2) h.1)

pub restored_is : (g : Geometry) (plan : Plan) (s : List ℕ) → WellShaped g s → KnownPlan g.n plan → restored g plan s ≡ lift g (λ i c. restored_by g.n plan c) s
restored_is g plan s shaped h = rw (shape_accepts g s shaped, known_true g.n plan h)

pub strip_has : {g : Geometry} {s : List ℕ} {i : ℕ} → WellShaped g s → i + strip ≤ g.b → HasStrip g s i
strip_has shaped fits = record { shaped = shaped; fits = fits }

-- P* and Q* without two roles are those of the columns; without both parities they are the parities of the data
pub survivors_seen : {g : Geometry} {s : List ℕ} {i w : ℕ} {pair : Pair} {sums : Sums} → Has g s i w
    → sums ≡ sums_of g.n (λ j. without pair.x pair.y (column_of g s i w j))
    → Survivors g s i w pair sums
survivors_seen {g} {pair = pair} h is =
    record {
      first = seen h (λ e. syndrome_p g.n (without pair.x pair.y e)) (ap (λ (r : Sums). r.p) is);
      second = seen h (λ e. syndrome_q reed_solomon g.n (without pair.x pair.y e)) (ap (λ (r : Sums). r.q) is);
    }

pub sums_of_data : (n : ℕ) (f : ℕ → Column) → sums_of n (λ j. without n (n + 1) (f j)) ≡ parities_of n f
sums_of_data n f =
    ap₂ (λ (p q : List ℕ). record { p = p; q = q }) (tabulate_same width (λ j l. (parities_lost n (f j)).0)) (tabulate_same width (λ j l. (parities_lost n (f j)).1))

-- the lost bytes of some columns, solved from P* and Q* without them and set
pub set_solved : {g : Geometry} {s : List ℕ} {i w x y : ℕ} (h : Has g s i w) (rule : Rule) (sums : Sums) {new : Restored} {t u : List ℕ} → x < g.n + 2 → y < g.n + 2
    → Holds w (λ j. syndrome_p g.n (without x y (column g s (i + j)))) sums.p
    → Holds w (λ j. syndrome_q reed_solomon g.n (without x y (column g s (i + j)))) sums.q
    → new ≡ solutions rule sums
    → t ≡ set_on g y i w new.second s
    → u ≡ set_on g x i w new.first t
    → ColumnsMapped g i w (λ j c. solved g.n x y rule c) s u
set_solved {g} {s} {i} {w} {x} {y} h rule sums {new} known_x known_y is_p is_q is_new is_t is_u =
    columns_as (set_two h new.first new.second known_x known_y is_t is_u)
    (λ j l.
    solved_as g.n x y (column g s (i + j)) rule
    (ap (λ (r : Restored). get_or r.first j 0) is_new ∙ each_at _ j (omega (arith, h.held)) ∙ ap₂ (λ (p q : ℕ). (solution rule p q).first) (is_p j l) (is_q j l))
    (ap (λ (r : Restored). get_or r.second j 0) is_new ∙ each_at _ j (omega (arith, h.held)) ∙ ap₂ (λ (p q : ℕ). (solution rule p q).second) (is_p j l) (is_q j l)))

-- the first `done` columns are restored: what the loop keeps
pub record Begun (g : Geometry) (plan : Plan) (done : ℕ) (s t : List ℕ) : Type 0 where
  pub within : done ≤ g.b
  pub columns : ColumnsMapped g 0 done (λ j c. restored_by g.n plan c) s t

module _ {g : Geometry} {plan : Plan} {s : List ℕ} where
  pub begun_none : Begun g plan 0 s s
  begun_none = record { within = omega arith; columns = columns_none }

  -- the next chunk lies within the stripe
  pub begun_chunk : {done i : ℕ} {t : List ℕ} → WellShaped g s → width ≤ g.b → i ≡ min done (g.b - width) → Begun g plan done s t → Has g t i width
  begun_chunk shaped fits next begun =
      record { shaped = shaped_same shaped begun.columns.kept; fits = omega (arith, fits, next); held = omega arith }

  -- the same columns by another count
  pub begun_count : {done more : ℕ} {t : List ℕ} → done ≡ more → Begun g plan done s t → Begun g plan more s t
  begun_count e begun = record { within = omega (arith, e, begun.within); columns = columns_count e begun.columns }

  -- w columns more, of which the first may have been restored before
  pub begun_next : {w done i : ℕ} {t u : List ℕ} → w ≤ g.b → i ≡ min done (g.b - w) → Begun g plan done s t
      → ColumnsMapped g i w (λ j c. restored_by g.n plan c) t u
      → Begun g plan (i + w) s u
  begun_next fits next begun step =
      record {
        within = omega (arith, fits, next);
        columns =
            columns_again (omega arith) (omega (arith, next)) (omega (arith, fits, next, begun.within)) (omega (arith, fits, next)) (restored_again g.n plan) begun.columns
            step;
      }

  -- the same, where a step that passes the end takes the last w columns
  pub begun_step : {w i : ℕ} {t u : List ℕ} (done : ℕ) → w ≤ g.b → i ≡ min done (g.b - w) → Begun g plan (min done g.b) s t
      → ColumnsMapped g i w (λ j c. restored_by g.n plan c) t u
      → Begun g plan (min (done + w) g.b) s u
  begun_step done fits next begun step = begun_count (omega (arith, fits, next)) (begun_next fits (omega (arith, fits, next)) begun step)

  pub begun_all : {done : ℕ} {t : List ℕ} → WellShaped g s → g.b ≤ done → Begun g plan done s t
      → t ≡ lift g (λ i c. restored_by g.n plan c) s
  begun_all shaped over begun = columns_all shaped (columns_count (omega (arith, over, begun.within)) begun.columns)

-- encode is a rebuild of both parities
pub encode_solved : (n : ℕ) (c : Column) → solved n n (n + 1) (Carried (element 0)) c ≡ encode_column reed_solomon n c
encode_solved n c =
    let lost = parities_lost n c in
    sym
    (solved_as n n (n + 1) c (Carried (element 0)) (sym lost.0)
    (sym (ap₂ sum lost.1 (zero_product (syndrome_p n (without n (n + 1) c))) ∙ sum_zero (parity_q reed_solomon n c))))
