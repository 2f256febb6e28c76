-- What C's check answers and leaves behind: its result, the verdicts and their summary.
use Rattle.std.specs.Prelude.{ℕ, ◌≡◌, List, eqb, length}
use Rattle.base.specs.Choice.{choose}
use Rattle.shape.specs.declared.Geometry.{Geometry}
use Rattle.shape.specs.Refusals.{check_refusal}
use Rattle.compare.specs.Compare.{verdicts, after_check}
use Rattle.verdict.specs.Summary.{summary}

-- the summary's place after a check: as it was where the check is refused
abbrev pub after_summary : Geometry → List ℕ → List ℕ → ℕ → ℕ
after_summary g s room before = choose (eqb (check_refusal g (length s) (length room)) 0) (summary (verdicts g s)) before

-- the contract: the result r, the final verdicts and the final summary, each equal to its definition
pub record ShelfCheckCall (g : Geometry) (s before : List ℕ) (summary_before r : ℕ) (after : List ℕ) (summary_after : ℕ) : Type 0 where
  pub result : r ≡ check_refusal g (length s) (length before)
  pub room : after ≡ after_check g s before
  pub found : summary_after ≡ after_summary g s before summary_before
