-- No refusal of a job has the number of one that is not refused.
-- Assumes nothing.
use Rattle.std.proofs.Common.{◌≡◌, ◌≢◌, ℕ, List, arith}
use Rattle.std.specs.Prelude.{Err}
use Rattle.shape.proofs.Numbers.{refusal_number}
use Rattle.header.specs.declared.JobRefusal.{JobRefusal}
use Rattle.header.specs.declared.JobRefusal.TheVariants.{Short, Mark, Version, Command, Size, Stripe}
use Rattle.header.specs.Refusals.{job_refusal}
use Rattle.header.specs.Numbers.{job_number_of, Judged}

pub job_refusal_number : (r : JobRefusal) → job_number_of r ≢ 0
job_refusal_number Short e = omega arith
job_refusal_number Mark e = omega arith
job_refusal_number Version e = omega arith
job_refusal_number Command e = omega arith
job_refusal_number Size e = omega arith
job_refusal_number (Stripe refusal) e = refusal_number refusal e

-- a refused job has no command to tell
pub judged_refused : {job : List ℕ} {r : JobRefusal} → job_number_of r ≡ job_refusal job → Judged job (Err r)
judged_refused e = record { number = e; command = tt }
