-- What the private functions promise; no public contract rests on this file.
use Rattle.std.specs.Prelude.{ℕ, List, [], ◌∷◌, ◌++◌, length}
use Rattle.base.specs.Refusal.{Refusal}
use Rattle.shape.specs.declared.Geometry.{Geometry}
use Rattle.devices.specs.declared.Named.{Named}
use Rattle.shape.specs.Refusals.{library, refusal1, refusal2, refusal3}
use Rattle.header.specs.Header.{command_of}
use Rattle.header.specs.Refusals.{refusal4, refusal5, refusal9, refusal16, refusal17, refusal18, refusal19}

-- the refusals of the header
abbrev pub header_refusals : List ℕ → List Refusal
header_refusals job = refusal16 job ∷ refusal17 job ∷ refusal18 job ∷ refusal19 (command_of job) ∷ []

-- those of the command's call
abbrev pub call_refusals : Geometry → ℕ → ℕ → Named → Named → List Refusal
call_refusals g len command first second =
    refusal1 library g ∷ refusal2 library g ∷ refusal3 g len ∷ refusal4 g command first second ∷ refusal5 first second ∷ []

-- those and 9, of the job's stripe
abbrev pub stripe_refusals : Geometry → ℕ → Named → Named → List ℕ → List Refusal
stripe_refusals g command first second s = call_refusals g (length s) command first second ++ (refusal9 g command s ∷ [])
