-- The refusals of a job: each number with its test, and their order. Refusals 1 to 3 are those of the stripe. Refusal 9 alone depends on
-- the bytes of the stripe.
use Rattle.std.specs.Prelude.{ℕ, ◌+◌, ◌/◌, Bool, true, not, List, [], ◌∷◌, eqb, ltb, length, get_or}
use Rattle.base.specs.Choice.{choose, both, either}
use Rattle.base.specs.Refusal.{Refusal, first_of}
use Rattle.shape.specs.declared.Geometry.{Geometry}
use Rattle.devices.specs.declared.Named.{Named}
use Rattle.shape.specs.Layout.{size}
use Rattle.shape.specs.Refusals.{library, refusal1, refusal2, refusal3}
use Rattle.devices.specs.Codes.{loss_of, misnamed, named_twice, no_devices}
use Rattle.compare.specs.Repair as Repair
use Rattle.header.specs.Header.{mark, version_of, command_of, geometry_of, first_device, second_device, stripe_of}

-- a job shorter than 14 bytes
abbrev pub refusal16 : List ℕ → Refusal
refusal16 job = record { number = 16; applies = ltb (length job) 14 }

-- a wrong mark. `stands xs at bytes` tests whether xs stand in the bytes from a place on.
abbrev pub stands : List ℕ → ℕ → List ℕ → Bool
stands [] at bytes = true
stands (x ∷ xs) at bytes = both (eqb (get_or bytes at 0) x) (stands xs (at + 1) bytes)

abbrev pub refusal17 : List ℕ → Refusal
refusal17 job = record { number = 17; applies = not (stands mark 0 job) }

-- the version isn't 1
abbrev pub refusal18 : List ℕ → Refusal
refusal18 job = record { number = 18; applies = not (eqb (version_of job) 1) }

-- an unknown command: not 1 to 4
abbrev pub refusal19 : ℕ → Refusal
refusal19 command = record { number = 19; applies = either (eqb command 0) (ltb 4 command) }

-- the most bytes that the stripe of a job may have
abbrev pub job_limit : ℕ
job_limit = 61440

-- the most columns that such a stripe has: those of one data disk, P and Q
abbrev pub most_columns : ℕ
most_columns = job_limit / 3

-- (n+2)·B above the limit
abbrev pub refusal20 : Geometry → Refusal
refusal20 g = record { number = 20; applies = ltb job_limit (size g) }

-- a device given or missing against the command's rule, a code with no meaning, or a data disk number of n or more: rebuild wants codes
-- that name a loss of devices that the stripe has, every other command wants none twice
abbrev pub refusal4 : Geometry → ℕ → Named → Named → Refusal
refusal4 g command first second =
    record { number = 4; applies = choose (eqb command 2) (misnamed g (loss_of first second)) (not (no_devices first second)) }

-- the same device twice
abbrev pub refusal5 : Named → Named → Refusal
refusal5 first second = record { number = 5; applies = named_twice (loss_of first second) }

-- a repair of a stripe whose summary names no one device
abbrev pub refusal9 : Geometry → ℕ → List ℕ → Refusal
refusal9 g command s = record { number = 9; applies = both (eqb command 4) (Repair.refusal9 g s).applies }

-- ---- the order
abbrev pub order : List ℕ → Geometry → List Refusal
order job g =
    refusal16 job
    ∷ refusal17 job
    ∷ refusal18 job
    ∷ refusal19 (command_of job)
    ∷ refusal1 library g
    ∷ refusal2 library g
    ∷ refusal20 g
    ∷ refusal3 g (length (stripe_of job))
    ∷ refusal4 g (command_of job) (first_device job) (second_device job)
    ∷ refusal5 (first_device job) (second_device job)
    ∷ refusal9 g (command_of job) (stripe_of job)
    ∷ []

unfoldable pub job_refusal : List ℕ → ℕ
job_refusal job = first_of (order job (geometry_of job))
