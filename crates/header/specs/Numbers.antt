-- The code of each command, and the number of each refusal of a job and of its result.
use Rattle.std.specs.Prelude.{ℕ, ◌≡◌, List, [], ◌∷◌, Result, Ok, Err, IfOk}
use Rattle.base.specs.Refusal.{first_of}
use Rattle.shape.specs.Number.{number_of}
use Rattle.header.specs.declared.Command as Asked
use Rattle.header.specs.declared.Command.TheVariants.{Encode, Rebuild, Check, Repair}
use Rattle.header.specs.declared.JobRefusal.{JobRefusal}
use Rattle.header.specs.declared.JobRefusal.TheVariants.{Short, Mark, Version, Command, Size, Stripe}
use Rattle.header.specs.Header.{command_of}
use Rattle.header.specs.Refusals.{refusal19, job_refusal}

abbrev pub command_code : Asked.Command → ℕ
command_code Encode = 1
command_code Rebuild = 2
command_code Check = 3
command_code Repair = 4

abbrev pub job_number_of : JobRefusal → ℕ
job_number_of Short = 16
job_number_of Mark = 17
job_number_of Version = 18
job_number_of Command = 19
job_number_of Size = 20
job_number_of (Stripe refusal) = number_of refusal

-- 0 where a job isn't refused
abbrev pub job_number : {T : Type 0} → Result T JobRefusal → ℕ
job_number (Ok value) = 0
job_number (Err refusal) = job_number_of refusal

-- the command with this code, or refusal 19
pub record Commands (code : ℕ) (r : Result Asked.Command JobRefusal) : Type 0 where
  pub number : job_number r ≡ first_of (refusal19 code ∷ [])
  pub command : IfOk r (λ command. command_code command ≡ code)

-- what a job asks for, or its refusal
pub record Judged (job : List ℕ) (r : Result Asked.Command JobRefusal) : Type 0 where
  pub number : job_number r ≡ job_refusal job
  pub command : IfOk r (λ command. command_code command ≡ command_of job)
