-- What holds of a job that is not refused.
-- Assumes nothing.
use mathlib.Core.Path.{◌≡◌, refl}
use mathlib.Core.Bool.{false}
use mathlib.Core.List.{List}
use Prim.Native.Nat.{ℕ, ◌+◌, ◌≤◌, ◌<◌}
use native.Mathlib.Nat.{pos_of_ne-zero, mul-le-mul}
use native.Mathlib.Omega.{arith}
use borrow.Author.Tests.{ltb-false, eqb-false}
use lib.Dec.{eqb, ltb}
use lib.ListN.{length}
use Rattle.shape.specs.Layout.{size}
use Rattle.shape.specs.Refusals.{library, refusal1, refusal2, refusal3, encode_refusal}
use Rattle.base.proofs.Choice.{either_false}
use Rattle.header.specs.Header.{command_of, geometry_of, first_device, second_device, stripe_of}
use Rattle.header.specs.Refusals.{job_limit, most_columns, order, refusal4, refusal5, refusal9, refusal16, refusal19, refusal20, job_refusal}
use Rattle.base.proofs.Refused.{none_applies}
use Rattle.shape.proofs.Refused.{well_shaped}

pub record Accepted (job : List ℕ) : Type 0 where
  pub long : 14 ≤ length job
  pub some : 0 < command_of job
  pub known : command_of job ≤ 4
  pub fits : size (geometry_of job) ≤ job_limit
  pub shape : encode_refusal (geometry_of job) (length (stripe_of job)) ≡ 0
  pub named : (refusal4 (geometry_of job) (command_of job) (first_device job) (second_device job)).applies ≡ false
  pub apart : (refusal5 (first_device job) (second_device job)).applies ≡ false
  pub clear : (refusal9 (geometry_of job) (command_of job) (stripe_of job)).applies ≡ false

pub accepted : (job : List ℕ) → job_refusal job ≡ 0 → Accepted job
unfolding job_refusal
accepted job e =
    let none = none_applies (order job (geometry_of job)) refl e in
    let short : (refusal16 job).applies ≡ false = search in
    let command : (refusal19 (command_of job)).applies ≡ false = search in
    let one : (refusal1 library (geometry_of job)).applies ≡ false = search in
    let two : (refusal2 library (geometry_of job)).applies ≡ false = search in
    let large : (refusal20 (geometry_of job)).applies ≡ false = search in
    let three : (refusal3 (geometry_of job) (length (stripe_of job))).applies ≡ false = search in
    let one_to_four = either_false (eqb (command_of job) 0) (ltb 4 (command_of job)) command in
    record {
      long = ltb-false (length job) 14 short;
      some = pos_of_ne-zero (eqb-false (command_of job) 0 one_to_four.0);
      known = ltb-false 4 (command_of job) one_to_four.1;
      fits = ltb-false job_limit (size (geometry_of job)) large;
      shape = simp (one, two, three);
      named = search;
      apart = search;
      clear = search;
    }

-- the limit bounds the columns
pub columns_most : {job : List ℕ} → Accepted job → (geometry_of job).b ≤ most_columns
columns_most {job} ok =
    let g = geometry_of job in
    let shaped = well_shaped g (stripe_of job) ok.shape in
    omega (arith, mul-le-mul {n₁ = 3} {m₁ = g.b} {n₂ = g.n + 2} {m₂ = g.b} (omega arith) (omega arith), ok.fits)
