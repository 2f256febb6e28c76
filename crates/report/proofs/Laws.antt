-- The laws of a report: its length, and that an output of this length gets it and no other does.
-- Assumes nothing.
use mathlib.Core.Path.{◌≡◌, ◌∙◌}
use mathlib.Core.Logic.{◌≢◌}
use mathlib.Core.List.{List, ◌∷◌}
use Prim.Native.Nat.{ℕ, ◌+◌, ◌*◌}
use native.Mathlib.Omega.{arith}
use borrow.Author.Tests.{eq-eqb, ne_eqb}
use lib.ListN.{length}
use Rattle.base.proofs.Refused.{left_done}
use Rattle.base.proofs.Table.{length_tabulate}
use Rattle.column.specs.Column.{verdict}
use Rattle.shape.specs.declared.Geometry.{Geometry}
use Rattle.shape.specs.Layout.{column}
use Rattle.shape.specs.Refusals.{encode_refusal, check_refusal}
use Rattle.shape.proofs.Accepts.{check_accepts}
use Rattle.compare.specs.Compare.{verdicts}
use Rattle.verdict.specs.Summary.{summary}
use Rattle.header.proofs.Fielded.{length_fields}
use Rattle.report.specs.Report.{report, where_reported, ReportCall}

module _ (g : Geometry) (s : List ℕ) where
  pub length_report : length (report (verdicts g s)) ≡ 2 + 2 * g.b
  length_report =
      let vs = verdicts g s in
      let columns : length vs ≡ g.b = length_tabulate g.b (λ i. verdict g.n (column g s i)) in
      length_fields (summary vs ∷ vs) ∙ omega arith

  module _ (room out : List ℕ) (e : check_refusal g (length s) (length room) ≡ 0) (made found : List ℕ) where
    pub report_done : length out ≡ 2 + 2 * g.b → where_reported g s room out made found ≡ made
    report_done is = left_done (check_refusal g (length s) (length room)) _ found e ∙ simp (eq-eqb _ _ is)

    pub report_left : length out ≢ 2 + 2 * g.b → where_reported g s room out made found ≡ found
    report_left other = left_done (check_refusal g (length s) (length room)) _ found e ∙ simp (ne_eqb _ _ other)

-- a stripe, a room for its verdicts and an output for their report
pub report_made : {g : Geometry} {s lent out lent' out' : List ℕ} → ReportCall g s lent out lent' out'
    → encode_refusal g (length s) ≡ 0
    → length lent ≡ g.b
    → length out ≡ 2 + 2 * g.b
    → out' ≡ report (verdicts g s)
report_made {g} {s} {lent} {out} call shape columns is =
    call.output ∙ report_done g s lent out (check_accepts g (length s) shape (length lent) columns) (report (verdicts g s)) out is
