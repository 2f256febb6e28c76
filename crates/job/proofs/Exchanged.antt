-- The order of a rebuild job's two device codes doesn't matter to its answer, where neither is none: a second of none means one lost.
-- Assumes nothing.
use mathlib.Core.Path.{◌≡◌, refl, sym, ap, ap₂, subst, ◌∙◌}
use mathlib.Core.Logic.{◌≢◌}
use mathlib.Core.Bool.{false}
use mathlib.Core.List.{List, ◌++◌}
use Prim.Native.Nat.{ℕ, ◌+◌, ◌<◌}
use native.Mathlib.Omega.{arith}
use native.Mathlib.Decide.{ℕ_discrete}
use lib.ListN.{get_or}
use Rattle.base.proofs.Choice.{either_comm}
use Rattle.column.specs.declared.Device.{Device}
use Rattle.column.specs.declared.Lost.TheVariants.{Two}
use Rattle.shape.specs.declared.Geometry.{Geometry}
use Rattle.std.specs.Prelude.{Option, Some, None}
use Rattle.column.specs.declared.Lost.{Lost}
use Rattle.shape.specs.Layout.{geometry}
use Rattle.devices.specs.Refusals.{unknown}
use Rattle.devices.specs.Codes.{naming_of, misnamed, named_twice}
use Rattle.devices.proofs.Order.{same_comm, codes_exchanged}
use Rattle.devices.proofs.Exchanged.{rebuild_exchanged}
use Rattle.header.specs.Fields.{field}
use Rattle.header.specs.Header.{command_of, geometry_of, loss_named, stripe_of, Exchanged}
use Rattle.header.specs.Refusals.{job_refusal}
use Rattle.job.specs.Answer.{opening, restored, body, answer_to}
use Rattle.header.proofs.Accepted.{Accepted, accepted}
use Rattle.header.proofs.Headed.{same_byte, same_field}
use Rattle.job.proofs.Bodies.{body_rebuild, loss_accepted}
use Rattle.job.proofs.Answers.{answer_refused, answer_accepted}

module _ (job other : List ℕ) (ex : Exchanged job other) (rebuild : command_of job ≡ 2) (some_first : field job 10 ≢ 65535) (some_second : field job 12 ≢ 65535) where
  byte : (k : ℕ) → k < 10 → get_or job k 0 ≡ get_or other k 0
  byte = same_byte job other 10 ex.front

  number : (k : ℕ) → k + 1 < 10 → field job k ≡ field other k
  number = same_field job other 10 ex.front

  other_rebuild : command_of other ≡ 2
  other_rebuild = sym (byte 5 (omega arith)) ∙ rebuild

  -- what holds of every pair of names exchanged, and of codes that are wrong both ways
  names : (Same : Option Lost → Option Lost → Type 0) → ((d e : Device) → Same (Some (Two d e)) (Some (Two e d))) → Same None None → Same (loss_named job) (loss_named other)
  names Same pair wrong =
      subst (Same (loss_named job)) (ap₂ naming_of ex.second ex.first) (codes_exchanged Same pair wrong (field job 10) (field job 12) some_first some_second)

  pub job_refusal_in_any_order : job_refusal job ≡ job_refusal other
  unfolding job_refusal
  job_refusal_in_any_order =
      let four = names (λ a b. misnamed (geometry_of other) a ≡ misnamed (geometry_of other) b) (λ d e. either_comm (unknown (geometry_of other) d) (unknown (geometry_of other) e)) refl in
      let five = names (λ a b. named_twice a ≡ named_twice b) same_comm refl in
      rw (byte 0 (omega arith), byte 1 (omega arith), byte 2 (omega arith), number 3 (omega arith), byte 5 (omega arith), number 6 (omega arith), number 8 (omega arith), ex.lengths, ex.stripes, other_rebuild, four, five)

  pub codes_in_any_order : ((j : ℕ) → get_or (stripe_of job) j 0 < 256) → answer_to job ≡ answer_to other
  codes_in_any_order bytes = go (ℕ_discrete (job_refusal job) 0)
    where
      go : Dec (job_refusal job ≡ 0) → answer_to job ≡ answer_to other
      go (no n) =
          answer_refused job n ∙ ap opening job_refusal_in_any_order ∙ sym (answer_refused other (λ e. n (job_refusal_in_any_order ∙ e)))
      go (yes e) =
          answer_accepted job e ∙ ap (λ (l : List ℕ). opening 0 ++ l) same ∙ sym (answer_accepted other (sym job_refusal_in_any_order ∙ e))
        where
          ok : Accepted job
          ok = accepted job e

          g : Geometry
          g = geometry_of job

          s : List ℕ
          s = stripe_of job

          loss : restored g (loss_named job) s ≡ restored g (loss_named other) s
          loss =
              names (λ a b. misnamed g a ≡ false → named_twice a ≡ false → restored g a s ≡ restored g b s)
              (λ d e m t. sym (rebuild_exchanged g d e s bytes (loss_accepted job ok (Two d e) m t)))
              (λ m t. refl)
              (rw rebuild at ok.named)
              ok.apart

          same : body job ≡ body other
          same =
              body_rebuild job rebuild
              ∙ loss
              ∙ ap₂ (λ (h : Geometry) (l : List ℕ). restored h (loss_named other) l) (ap₂ geometry (number 6 (omega arith)) (number 8 (omega arith))) ex.stripes
              ∙ sym (body_rebuild other other_rebuild)
