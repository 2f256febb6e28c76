-- The body of an accepted job's answer for each command, and its length.
-- Assumes nothing.
use mathlib.Core.Path.{◌≡◌, refl, sym, ap, ◌∙◌}
use mathlib.Core.Bool.{false}
use mathlib.Core.List.{List, [], ◌∷◌}
use Prim.Native.Nat.{ℕ, ◌+◌, ◌*◌, ◌-◌}
use native.Mathlib.Omega.{arith}
use native.Mathlib.Decide.{ℕ_discrete}
use lib.ListN.{length, take, drop}
use Rattle.column.specs.declared.Lost.{Lost}
use Rattle.shape.specs.declared.Geometry.{Geometry}
use Rattle.std.specs.Prelude.{Option, Some, None}
use Rattle.column.specs.Column.{reed_solomon, encode_column, rebuild_column}
use Rattle.compare.specs.Compare.{verdicts}
use Rattle.stripe.specs.Stripe.{encoded, rebuilt, repaired}
use Rattle.shape.specs.Refusals.{library, shape_refusals, encode_refusal}
use Rattle.devices.specs.Refusals.{unknown_lost, twice, loss_refusals, rebuild_refusal}
use Rattle.stripe.specs.Calls.{after_encode, after_rebuild, rebuilt_by, after_repair}
use Rattle.compare.specs.Repair.{refusal9, repair_refusal}
use Rattle.stripe.proofs.Repairs.{repaired_long}
use Rattle.shape.proofs.Places.{length_lift}
use Rattle.base.proofs.Refused.{first_passed, left_done}
use Rattle.base.proofs.Tails.{tail}
use Rattle.header.specs.Header.{command_of, geometry_of, loss_named, stripe_of}
use Rattle.devices.specs.Codes.{misnamed, named_twice}
use Rattle.report.specs.Report.{report}
use Rattle.job.specs.Answer.{restored, body}
use Rattle.header.proofs.Accepted.{Accepted}
use Rattle.report.proofs.Laws.{length_report}

length_restored : (g : Geometry) (loss : Option Lost) (s : List ℕ) → length (restored g loss s) ≡ length s
length_restored g (Some lost) s = length_lift g (λ i c. rebuild_column reed_solomon g.n lost c) s
length_restored g None s = refl

module _ (job : List ℕ) where
  abbrev g : Geometry
  g = geometry_of job

  abbrev s : List ℕ
  s = stripe_of job

  pub body_encode : command_of job ≡ 1 → body job ≡ encoded g s
  unfolding body
  body_encode e = rw e

  pub body_rebuild : command_of job ≡ 2 → body job ≡ restored g (loss_named job) s
  unfolding body
  body_rebuild e = rw e

  pub body_check : command_of job ≡ 3 → body job ≡ report (verdicts g s)
  unfolding body
  body_check e = rw e

  pub body_repair : command_of job ≡ 4 → body job ≡ repaired g s
  unfolding body
  body_repair e = rw e

  pub length_check : command_of job ≡ 3 → length (body job) ≡ 2 + 2 * g.b
  length_check e = ap length (body_check e) ∙ length_report g s

  -- the same of the stripe as the code lends it
  pub check_done : command_of job ≡ 3 → body job ≡ report (verdicts g (take (length job - 14) (drop 14 job)))
  check_done e = body_check e ∙ ap (λ (l : List ℕ). report (verdicts g l)) (sym (tail 14 job))

  module _ (ok : Accepted job) where
    pub other : (command_of job ≡ 1 → ⊥) → (command_of job ≡ 2 → ⊥) → (command_of job ≡ 3 → ⊥) → command_of job ≡ 4
    other p q h = omega arith

    -- a command other than check
    pub length_stripe : (command_of job ≡ 3 → ⊥) → length (body job) ≡ length s
    length_stripe h = go (ℕ_discrete (command_of job) 1) (ℕ_discrete (command_of job) 2)
      where
        go : Dec (command_of job ≡ 1) → Dec (command_of job ≡ 2) → length (body job) ≡ length s
        go (yes e) d = ap length (body_encode e) ∙ length_lift g (λ i c. encode_column reed_solomon g.n c) s
        go (no p) (yes e) = ap length (body_rebuild e) ∙ length_restored g (loss_named job) s
        go (no p) (no q) = ap length (body_repair (other p q h)) ∙ repaired_long g s

    -- what the calls leave is the body
    pub encode_done : command_of job ≡ 1 → after_encode g s ≡ body job
    unfolding after_encode
    encode_done e = left_done (encode_refusal g (length s)) (encoded g s) s ok.shape ∙ sym (body_encode e)

    pub loss_accepted : (lost : Lost) → unknown_lost g lost ≡ false → twice lost ≡ false → rebuild_refusal g (length s) lost ≡ 0
    loss_accepted lost m t = first_passed (shape_refusals library g (length s)) (loss_refusals g lost) refl ok.shape ∙ simp (m, t)

    pub rebuild_done : command_of job ≡ 2 → rebuilt_by g (loss_named job) s ≡ body job
    unfolding after_rebuild
    rebuild_done e = go (loss_named job) (rw e at ok.named) ok.apart ∙ sym (body_rebuild e)
      where
        go : (loss : Option Lost) → misnamed g loss ≡ false → named_twice loss ≡ false → rebuilt_by g loss s ≡ restored g loss s
        go (Some lost) m t =
            left_done (rebuild_refusal g (length s) lost) (rebuilt g lost s) s (loss_accepted lost m t)
        go None m t = refl

    pub repair_done : command_of job ≡ 4 → after_repair g s ≡ body job
    unfolding after_repair
    repair_done e =
        left_done (repair_refusal g s) (repaired g s) s (first_passed (shape_refusals library g (length s)) (refusal9 g s ∷ []) refl ok.shape ∙ simp (rw e at ok.clear))
        ∙ sym (body_repair e)
