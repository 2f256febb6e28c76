-- A loop that goes over a stripe stretch by stretch, finds the summary of the verdicts and keeps them in a room or not. Its laws: the next
-- stretch has its room, none checked, a stretch more, whose first columns may have been checked before, and all.
-- Assumes nothing.
use mathlib.Core.Path.{◌≡◌, refl, sym, ap, subst, ◌∙◌}
use mathlib.Core.Bool.{Bool, true, false}
use mathlib.Core.List.{List, ◌++◌}
use Prim.Native.Nat.{ℕ, ◌+◌, ◌-◌, ◌≤◌, ◌<◌, min}
use native.Mathlib.Omega.{arith}
use borrow.Rule.Slice.PartMut.{put_mid, Post-is, same_len_mid}
use lib.ListN.{length, take, drop}
use Rattle.base.specs.Choice.{choose}
use Rattle.base.specs.Table.{tabulate}
use Rattle.base.proofs.Fill.{Filled, fill_none, fill_over, fill_all}
use Rattle.base.proofs.Table.{length_tabulate}
use Rattle.base.proofs.Tails.{part_length}
use Rattle.column.specs.Column.{verdict}
use Rattle.shape.specs.declared.Geometry.{Geometry}
use Rattle.shape.specs.Layout.{column}
use Rattle.sums.specs.Strip.{strip}
use Rattle.verdict.specs.Summary.{joined, summary, WithSummary}
use Rattle.verdict.proofs.Summary.{summary_none, summary_again, summary_as}
use Rattle.compare.specs.Compare.{verdicts_from, RoomFor, CheckedInto}

-- found is the summary of the first i verdicts, and the room has them, if they are kept
pub record CheckedBelow (g : Geometry) (s : List ℕ) (keep : Bool) (before room : List ℕ) (i found : ℕ) : Type 0 where
  pub within : i ≤ g.b
  pub summarized : found ≡ summary (tabulate i (λ j. verdict g.n (column g s j)))
  pub long : length room ≡ length before
  pub kept : keep ≡ true → Filled (λ j v. verdict g.n (column g s j)) g.b before room i

pub room_fits : {g : Geometry} (keep : Bool) {room : List ℕ} → RoomFor g keep room → (i w : ℕ) → w ≤ strip → i + w ≤ g.b
    → (choose keep i 0 ≤ i) × (choose keep i 0 + w ≤ length room)
room_fits true has i w h fits = (omega arith, omega (arith, has.whole refl))
room_fits false has i w h fits = (omega arith, omega (arith, has.scratch refl))

module _ {g : Geometry} {s : List ℕ} {keep : Bool} {before : List ℕ} where
  pub checked_none : RoomFor g keep before → CheckedBelow g s keep before before 0 0
  checked_none has =
      record { within = omega arith; summarized = sym (summary_none _); long = refl; kept = λ e. fill_none (has.whole e) }

  pub checked_count : {room : List ℕ} {i k found : ℕ} → i ≡ k → CheckedBelow g s keep before room i found → CheckedBelow g s keep before room k found
  checked_count {room} {found = found} same = subst (λ (i : ℕ). CheckedBelow g s keep before room i found) same

  pub checked_more : {room m : List ℕ} {c found v r at : ℕ} (i w : ℕ) → CheckedBelow g s keep before room c found → i ≤ c → c ≤ i + w → i + w ≤ g.b
      → at ≡ choose keep i 0
      → at + w ≤ length room
      → WithSummary (verdicts_from g s i (length (take (at + w - at) (drop at room)))) v m
      → r ≡ joined found v
      → CheckedBelow g s keep before (put_mid at (at + w - at) room m) (i + w) r
  checked_more {room} {m} {c} {v = v} {at = at} i w below begins reaches fits is holds told step =
      record {
        within = fits;
        summarized = summary_again f i w c begins reaches below.summarized part.result step;
        long = same_len_mid at (at + w - at) room m (ap length told.room ∙ length_tabulate _ _) ∙ below.long;
        kept =
            λ e.
            let here : at ≡ i = is ∙ ap (λ (k : Bool). choose k i 0) e in
            subst (λ (a : ℕ). Filled (λ j v. f j) g.b before (take a room ++ (m ++ drop (at + w - at) (drop at room))) (i + w)) (sym here)
            (fill_over i w (below.kept e) begins reaches fits part.room (Post-is at (at + w) room (omega arith) ∙ ap (λ (a : ℕ). drop (a + w) room) here));
      }
    where
      f : ℕ → ℕ
      f j = verdict g.n (column g s j)

      part : WithSummary (verdicts_from g s i w) v m
      part = summary_as (ap (verdicts_from g s i) (part_length room at (at + w) (omega arith) holds ∙ omega arith)) told

  -- a strip more, which may begin among columns that were checked before
  pub checked_strip : {room m : List ℕ} {done i found v r at : ℕ} → RoomFor g keep before → strip ≤ g.b → done < g.b → i ≡ min done (g.b - strip)
      → CheckedBelow g s keep before room (min done g.b) found
      → at ≡ choose keep i 0
      → WithSummary (verdicts_from g s i (length (take (at + strip - at) (drop at room)))) v m
      → r ≡ joined found v
      → CheckedBelow g s keep before (put_mid at (at + strip - at) room m) (min (done + strip) g.b) r
  checked_strip {i = i} has wide left next below is told step =
      let fits : i + strip ≤ g.b = omega (arith, wide, next) in
      let holds = room_fits keep has i strip (omega arith) fits in
      checked_count (omega (arith, wide, left, next))
      (checked_more i strip below (omega (arith, wide, left, next)) (omega (arith, wide, left, next)) fits is (omega (arith, holds, is, below.long)) told step)

  pub checked_all : {room : List ℕ} {i found : ℕ} → CheckedBelow g s keep before room i found → i ≡ g.b → CheckedInto g s keep found room
  checked_all below all =
      record {
        result = below.summarized ∙ ap (λ (k : ℕ). summary (tabulate k (λ j. verdict g.n (column g s j)))) all;
        room = λ e. fill_all (below.kept e) (omega arith);
      }
