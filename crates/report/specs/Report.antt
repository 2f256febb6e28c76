-- The report of a check: the summary and the verdicts, each as a field, and what a call leaves in its room and its output.
use Rattle.std.specs.Prelude.{ℕ, ◌+◌, ◌*◌, ◌≡◌, List, ◌∷◌, eqb, length}
use Rattle.base.specs.Choice.{choose}
use Rattle.base.specs.Refusal.{unless_refused}
use Rattle.shape.specs.declared.Geometry.{Geometry}
use Rattle.shape.specs.Refusals.{check_refusal}
use Rattle.compare.specs.Compare.{verdicts}
use Rattle.verdict.specs.Summary.{summary}
use Rattle.header.specs.Fields.{fields}

abbrev pub report : List ℕ → List ℕ
report vs = fields (summary vs ∷ vs)

-- what a call makes where the check is not refused and the output has the report's length, else what it found
abbrev pub where_reported : (g : Geometry) (s room out : List ℕ) → (made found : List ℕ) → List ℕ
where_reported g s room out made found =
    unless_refused (check_refusal g (length s) (length room)) (choose (eqb (length out) (2 + 2 * g.b)) made found) found

-- The contract: the final room and the final output.
pub record ReportCall (g : Geometry) (s lent out lent' out' : List ℕ) : Type 0 where
  pub room : lent' ≡ where_reported g s lent out (verdicts g s) lent
  pub output : out' ≡ where_reported g s lent out (report (verdicts g s)) out
