-- What a check finds: the verdict on every column, and their summary.
use Rattle.std.specs.Prelude.{ℕ, ◌+◌, ◌≤◌, ◌≡◌, Bool, true, false, List, eqb, length}
use Rattle.base.specs.Choice.{choose}
use Rattle.base.specs.Refusal.{unless_refused}
use Rattle.base.specs.Table.{tabulate}
use Rattle.column.specs.Column.{verdict}
use Rattle.losses.specs.declared.Pair.{Pair}
use Rattle.shape.specs.declared.Geometry.{Geometry}
use Rattle.shape.specs.Layout.{column}
use Rattle.shape.specs.Refusals.{encode_refusal, check_refusal}
use Rattle.sums.specs.Strip.{strip}
use Rattle.verdict.specs.Summary.{summary}

-- the verdict on every column
abbrev pub verdicts : Geometry → List ℕ → List ℕ
verdicts g s = tabulate g.b (λ i. verdict g.n (column g s i))

-- the summary without room for verdicts; 0 where the stripe is none
abbrev pub summary_of : Geometry → List ℕ → ℕ
summary_of g s = choose (eqb (encode_refusal g (length s)) 0) (summary (verdicts g s)) 0

-- the verdict buffer after a check
unfoldable pub after_check : Geometry → List ℕ → List ℕ → List ℕ
after_check g s room = unless_refused (check_refusal g (length s) (length room)) (verdicts g s) room

-- the summary; 0 where the check is refused
abbrev pub found : Geometry → List ℕ → List ℕ → ℕ
found g s room = choose (eqb (check_refusal g (length s) (length room)) 0) (summary (verdicts g s)) 0

pub record CompareCall (g : Geometry) (s before : List ℕ) (r : ℕ) (after : List ℕ) : Type 0 where
  pub result : r ≡ found g s before
  pub room : after ≡ after_check g s before

-- ---- what private functions suppose and promise; no public contract rests on the rest
-- the verdicts on k columns from column i on
abbrev pub verdicts_from : Geometry → List ℕ → ℕ → ℕ → List ℕ
verdicts_from g s i k = tabulate k (λ j. verdict g.n (column g s (i + j)))

-- two roles that a stripe with n data disks has not
abbrev pub beyond : ℕ → Pair
beyond n = record { x = n + 2; y = n + 2 }

-- the room has a place for each verdict, if they are kept, and else for those of a stretch
pub record RoomFor (g : Geometry) (keep : Bool) (room : List ℕ) : Type 0 where
  pub whole : keep ≡ true → length room ≡ g.b
  pub scratch : keep ≡ false → strip ≤ length room

-- the summary is found, and the room has the verdicts, if they are kept
pub record CheckedInto (g : Geometry) (s : List ℕ) (keep : Bool) (r : ℕ) (after : List ℕ) : Type 0 where
  pub result : r ≡ summary (verdicts g s)
  pub room : keep ≡ true → after ≡ verdicts g s
