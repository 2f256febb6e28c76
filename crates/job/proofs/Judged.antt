-- What a job asks for, or its refusal, in numbers.
-- Assumes nothing.
use Rattle.std.proofs.Common.{◌≡◌, ◌≢◌, ℕ, List, refl, sym, ap, ◌∙◌, subst, arith}
use Rattle.std.specs.Prelude.{Result, Ok, Err, IfOk}
use Rattle.header.specs.declared.Command.{Command}
use Rattle.header.specs.declared.Command.TheVariants.{Encode, Rebuild, Check, Repair}
use Rattle.header.specs.declared.JobRefusal.{JobRefusal}
use Rattle.header.specs.Header.{command_of}
use Rattle.header.specs.Numbers.{command_code, job_number, Judged}
use Rattle.header.specs.Refusals.{job_refusal}
use Rattle.header.proofs.Numbers.{job_refusal_number}

module _ {job : List ℕ} {asked : Result Command JobRefusal} (judged : Judged job asked) where
  pub judged_err : {r : JobRefusal} → asked ≡ Err r → job_refusal job ≢ 0
  judged_err {r} is e = job_refusal_number r (ap (λ (o : Result Command JobRefusal). job_number o) (sym is) ∙ judged.number ∙ e)

  pub judged_ok : {command : Command} → asked ≡ Ok command → (job_refusal job ≡ 0) × (command_code command ≡ command_of job)
  judged_ok is = (
    sym judged.number ∙ ap (λ (o : Result Command JobRefusal). job_number o) is,
    subst (λ (o : Result Command JobRefusal). IfOk o (λ command. command_code command ≡ command_of job)) is judged.command,
  )

pub check_alone : (command : Command) → command_code command ≡ 3 → command ≡ Check
check_alone Encode e = absurd (omega arith)
check_alone Rebuild e = absurd (omega arith)
check_alone Check e = refl
check_alone Repair e = absurd (omega arith)
