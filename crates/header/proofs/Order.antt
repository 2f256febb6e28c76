-- The job's order of refusals in its steps: the header's, then 1 and 2, then 20, and then the rest.
-- Assumes nothing.
use mathlib.Core.Path.{◌≡◌, refl, sym, ◌∙◌}
use mathlib.Core.Bool.{true, false, false≢true}
use mathlib.Core.List.{List, [], ◌∷◌, ◌++◌}
use Prim.Native.Nat.{ℕ, ◌≤◌}
use borrow.Author.Tests.{ltb-false, le-ltb}
use lib.ListN.{length}
use Rattle.base.specs.Refusal.{Refusal, first_of}
use Rattle.base.proofs.Refused.{none_applies, first_passed, refused_then}
use Rattle.shape.specs.declared.Geometry.{Geometry}
use Rattle.devices.specs.declared.Named.{Named}
use Rattle.devices.specs.declared.Named.TheVariants.{Device, Nothing, Meaningless}
use Rattle.shape.specs.Layout.{size}
use Rattle.shape.specs.Refusals.{library, limits_refusals, refusal3}
use Rattle.devices.specs.Codes.{named_by, loss_of, named_twice, no_devices}
use Rattle.header.specs.Fields.{field}
use Rattle.header.specs.Header.{command_of, geometry_of, first_device, second_device, stripe_of}
use Rattle.header.specs.Refusals.{job_limit, refusal4, refusal5, refusal9, refusal20, job_refusal}
use Rattle.header.specs.Steps.{header_refusals, stripe_refusals}

abbrev pub limits_of : List ℕ → List Refusal
limits_of job = limits_refusals library (geometry_of job)

-- from 3 on, with the stripe beside the job
abbrev pub from3 : List ℕ → List ℕ → List Refusal
from3 job s =
    refusal3 (geometry_of job) (length s)
    ∷ refusal4 (geometry_of job) (command_of job) (first_device job) (second_device job)
    ∷ refusal5 (first_device job) (second_device job)
    ∷ refusal9 (geometry_of job) (command_of job) s
    ∷ []

abbrev pub rest_of : List ℕ → List Refusal
rest_of job = from3 job (stripe_of job)

-- from 20 on, and all that follows the header
abbrev pub from20 : List ℕ → List Refusal
from20 job = refusal20 (geometry_of job) ∷ rest_of job

abbrev pub behind_header : List ℕ → List Refusal
behind_header job = limits_of job ++ from20 job

pub header_long : (job : List ℕ) → first_of (header_refusals job) ≡ 0 → 14 ≤ length job
header_long job e = ltb-false (length job) 14 (none_applies (header_refusals job) refl e).0

-- codes of none name no device twice
pub none_twice : (a b : Named) → no_devices a b ≡ true → named_twice (loss_of a b) ≡ false
none_twice (Device d) b e = absurd (false≢true e)
none_twice Nothing b e = refl
none_twice Meaningless b e = refl

-- what the stripe's refusals give, by what was read of the job
pub stripe_as : (job : List ℕ) {g : Geometry} {command first second : ℕ} {s : List ℕ} → g ≡ geometry_of job → command ≡ command_of job → first ≡ field job 10
    → second ≡ field job 12
    → s ≡ stripe_of job
    → first_of (stripe_refusals g command (named_by first) (named_by second) s) ≡ first_of (limits_of job ++ rest_of job)
stripe_as job is_g is_command is_first is_second is_s = rw (is_g, is_command, is_first, is_second, is_s)

-- the stripe's refusals decide where the header and the limits refuse nothing
pub stripe_then : (job : List ℕ) {k : ℕ} → 0 ≡ first_of (header_refusals job) → 0 ≡ first_of (limits_of job) → size (geometry_of job) ≤ job_limit
    → k ≡ first_of (limits_of job ++ rest_of job)
    → k ≡ job_refusal job
unfolding job_refusal
stripe_then job header limits fits rest =
    refused_then (header_refusals job) (behind_header job) header refl refl
    (refused_then (limits_of job) (from20 job) limits refl refl
    (rest ∙ first_passed (limits_of job) (rest_of job) refl (sym limits) ∙ sym (simp (le-ltb job_limit (size (geometry_of job)) fits))))
