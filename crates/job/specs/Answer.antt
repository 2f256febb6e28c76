-- The answer to a job: mark, version 1 and the result byte; then, unless the job is refused, the stripe for an encode, a rebuild or a
-- repair, or the summary and the verdicts for a check.
use Rattle.std.specs.Prelude.{ℕ, ◌≡◌, List, [], ◌∷◌, ◌++◌, eqb, leb, length, drop}
use Rattle.shape.specs.declared.Geometry.{Geometry}
use Rattle.std.specs.Prelude.{Option, Some, None}
use Rattle.column.specs.declared.Lost.{Lost}
use Rattle.base.specs.Choice.{choose}
use Rattle.compare.specs.Compare.{verdicts}
use Rattle.stripe.specs.Stripe.{encoded, rebuilt, repaired}
use Rattle.base.specs.Refusal.{unless_refused}
use Rattle.header.specs.Fields.{big_endian}
use Rattle.header.specs.Header.{mark, command_of, geometry_of, loss_named, stripe_of}
use Rattle.header.specs.Refusals.{job_refusal}
use Rattle.report.specs.Report.{report}

-- the six bytes of every answer
abbrev pub opening : ℕ → List ℕ
opening result = mark ++ (big_endian 1 ++ (result ∷ []))

-- a rebuilt stripe; codes that name no loss are refused before it
abbrev pub restored : Geometry → Option Lost → List ℕ → List ℕ
restored g (Some lost) s = rebuilt g lost s
restored g None s = s

-- what follows the six bytes where the job is not refused
abbrev pub outcome : ℕ → Geometry → Option Lost → List ℕ → List ℕ
outcome command g loss s =
    choose (eqb command 1) (encoded g s)
    (choose (eqb command 2) (restored g loss s) (choose (eqb command 3) (report (verdicts g s)) (repaired g s)))

unfoldable pub body : List ℕ → List ℕ
body job = outcome (command_of job) (geometry_of job) (loss_named job) (stripe_of job)

unfoldable pub answer_to : List ℕ → List ℕ
answer_to job = opening (job_refusal job) ++ unless_refused (job_refusal job) (body job) []

-- The contract: the number of bytes answered and the final output. The answer stands at the output's start and the rest is left; an
-- answer that the output has no room for is not written, and 0 is returned.
pub record AnswerCall (job before : List ℕ) (r : ℕ) (after : List ℕ) : Type 0 where
  pub count : r ≡ choose (leb (length (answer_to job)) (length before)) (length (answer_to job)) 0
  pub output :
      after ≡ choose (leb (length (answer_to job)) (length before)) (answer_to job ++ drop (length (answer_to job)) before) before
