-- The program's output has room for every answer, and its input holds all that an answer depends on.
-- Assumes nothing.
use mathlib.Core.Path.{◌≡◌, sym, ap, ◌∙◌}
use mathlib.Core.Logic.{⊎_elim}
use mathlib.Core.List.{List}
use Prim.Native.Nat.{ℕ, ◌≤◌, ◌<◌}
use native.Mathlib.Omega.{arith}
use native.Mathlib.Decide.{ℕ_discrete}
use borrow.Author.Tests.{le-leb}
use lib.ListN.{length, take, length-append}
use lib.Seq.{take_all, take-take, length-take-le}
use Rattle.shape.proofs.Refused.{well_shaped}
use Rattle.base.proofs.Choice.{below_or_not}
use Rattle.header.specs.Header.{command_of, geometry_of, stripe_of}
use Rattle.header.specs.Refusals.{job_refusal}
use Rattle.header.proofs.Accepted.{accepted, columns_most}
use Rattle.header.proofs.Headed.{refusal_past_limit, too_long}
use Rattle.job.specs.Answer.{opening, answer_to, AnswerCall}
use Rattle.job.proofs.Bodies.{length_check, length_stripe}
use Rattle.job.proofs.Answers.{answer_refused, length_accepted}
use Rattle.buffers.specs.Buffers.{input_size, output_size, AnswerInputCall}

-- the output has room for every answer
pub answer_most : (job : List ℕ) → length (answer_to job) ≤ output_size
answer_most job = go (ℕ_discrete (job_refusal job) 0)
  where
    of : job_refusal job ≡ 0 → Dec (command_of job ≡ 3) → length (answer_to job) ≤ output_size
    of e (yes is) = omega (arith, length_accepted job e, length_check job is, columns_most (accepted job e))
    of e (no p) =
        let ok = accepted job e in
        let whole = well_shaped (geometry_of job) (stripe_of job) ok.shape in
        omega (arith, length_accepted job e, length_stripe job ok p)

    go : Dec (job_refusal job ≡ 0) → length (answer_to job) ≤ output_size
    go (yes e) = of e (ℕ_discrete (command_of job) 3)
    go (no n) = omega (arith, ap length (answer_refused job n))

-- what stands past the input changes nothing: so long a job is refused by its header and its length
pub input_enough : (job : List ℕ) → answer_to (take input_size job) ≡ answer_to job
input_enough job = ⊎_elim long (λ h. ap answer_to (take_all input_size job h)) (below_or_not input_size (length job))
  where
    long : input_size < length job → answer_to (take input_size job) ≡ answer_to job
    long h =
        let cut : length (take input_size job) ≡ input_size = length-take-le input_size job (omega arith) in
        answer_refused (take input_size job) (too_long (take input_size job) (omega arith))
        ∙ ap opening (refusal_past_limit (take input_size job) job (take-take 14 input_size job (omega arith)) (omega arith) (omega arith))
        ∙ sym (answer_refused job (too_long job (omega arith)))

-- in an output of this size the answer stands whole
pub input_answered : {input before : List ℕ} {read : ℕ} {job : List ℕ} {r : ℕ} {after : List ℕ}
    → (length input ≡ input_size) × (length before ≡ output_size)
    → job ≡ take read input
    → AnswerCall job before r after
    → AnswerInputCall input read before r after
input_answered {input} {before} {read} {job} sizes is call =
    let room = le-leb (length (answer_to job)) (length before) (omega (arith, answer_most job)) in
    record {
      sizes = sizes;
      count = rw (← is) (simp room at call.count);
      output = rw (← is) (simp room at call.output);
    }

-- what is returned counts bytes of the output
pub input_within : {input before : List ℕ} {read r : ℕ} {after : List ℕ} → AnswerInputCall input read before r after → r ≤ length after
input_within call = omega (arith, call.count, simp length-append at (ap length call.output))
