-- The answer to a job is the one that encode, rebuild, check and repair of a stripe define, and opens with the mark and version 1.
-- Assumes nothing.
use mathlib.Core.Path.{◌≡◌, refl, ap, ◌∙◌}
use mathlib.Core.Logic.{◌≢◌}
use mathlib.Core.Bool.{false, true≢false}
use mathlib.Core.List.{List, [], ◌∷◌, ◌++◌}
use Prim.Native.Nat.{ℕ, ◌+◌, ◌≤◌}
use native.Mathlib.Omega.{arith}
use lib.ListN.{length, take}
use Rattle.column.specs.declared.Lost.{Lost}
use Rattle.std.specs.Prelude.{Option, Some, None}
use Rattle.compare.specs.Compare.{verdicts}
use Rattle.stripe.specs.Stripe.{encoded, rebuilt, repaired}
use Rattle.verdict.specs.Summary.{summary}
use Rattle.base.specs.Refusal.{unless_refused}
use Rattle.base.proofs.Refused.{left_alone}
use Rattle.header.specs.Fields.{big_endian, fields}
use Rattle.header.specs.Header.{mark, command_of, geometry_of, loss_named, stripe_of}
use Rattle.devices.specs.Codes.{misnamed}
use Rattle.header.specs.Refusals.{job_refusal}
use Rattle.job.specs.Answer.{opening, restored, body, answer_to}
use Rattle.header.proofs.Accepted.{accepted}
use Rattle.job.proofs.Bodies.{body_encode, body_rebuild, body_check, body_repair}

-- a refused job gets the six bytes alone
pub answer_refused : (job : List ℕ) → job_refusal job ≢ 0 → answer_to job ≡ opening (job_refusal job)
unfolding answer_to
answer_refused job n = ap (λ (l : List ℕ). opening (job_refusal job) ++ l) (left_alone (job_refusal job) (body job) [] n)

pub answer_accepted : (job : List ℕ) → job_refusal job ≡ 0 → answer_to job ≡ opening 0 ++ body job
unfolding answer_to
answer_accepted job e = ap (λ (k : ℕ). opening k ++ unless_refused k (body job) []) e

-- ---- what an accepted job gets, by its command
module _ (job : List ℕ) (e : job_refusal job ≡ 0) where
  pub answer_encode : command_of job ≡ 1 → answer_to job ≡ opening 0 ++ encoded (geometry_of job) (stripe_of job)
  answer_encode is = answer_accepted job e ∙ ap (λ (l : List ℕ). opening 0 ++ l) (body_encode job is)

  -- the codes of an accepted rebuild name a loss
  pub rebuild_loss : command_of job ≡ 2 → (lost : Lost) × (loss_named job ≡ Some lost)
  rebuild_loss is = go (loss_named job) (rw is at (accepted job e).named)
    where
      go : (loss : Option Lost) → misnamed (geometry_of job) loss ≡ false → (lost : Lost) × (loss ≡ Some lost)
      go (Some lost) m = (lost, refl)
      go None m = absurd (true≢false m)

  pub answer_rebuild : command_of job ≡ 2 → (lost : Lost) → loss_named job ≡ Some lost
      → answer_to job ≡ opening 0 ++ rebuilt (geometry_of job) lost (stripe_of job)
  answer_rebuild is lost named =
      answer_accepted job e
      ∙ ap (λ (l : List ℕ). opening 0 ++ l) (body_rebuild job is ∙ ap (λ (loss : Option Lost). restored (geometry_of job) loss (stripe_of job)) named)

  pub answer_check : command_of job ≡ 3
      → answer_to job
      ≡ opening 0 ++ fields (summary (verdicts (geometry_of job) (stripe_of job)) ∷ verdicts (geometry_of job) (stripe_of job))
  answer_check is = answer_accepted job e ∙ ap (λ (l : List ℕ). opening 0 ++ l) (body_check job is)

  pub answer_repair : command_of job ≡ 4 → answer_to job ≡ opening 0 ++ repaired (geometry_of job) (stripe_of job)
  answer_repair is = answer_accepted job e ∙ ap (λ (l : List ℕ). opening 0 ++ l) (body_repair job is)

  pub length_accepted : length (answer_to job) ≡ 6 + length (body job)
  length_accepted = ap length (answer_accepted job e) ∙ omega arith

-- ---- every answer
pub answer_opens : (job : List ℕ) → take 5 (answer_to job) ≡ mark ++ big_endian 1
unfolding answer_to
answer_opens job = refl

pub answer_least : (job : List ℕ) → 6 ≤ length (answer_to job)
unfolding answer_to
answer_least job = omega arith
