-- A repair is a rebuild of the device that the summary names, or nothing: from the refusals to the buffer that a call leaves.
-- Assumes nothing.
use mathlib.Core.Path.{◌≡◌, refl, sym, ap, subst, ◌∙◌}
use mathlib.Core.Logic.{◌≢◌, ◌⊎◌, ⊎_elim}
use mathlib.Core.List.{List, [], ◌∷◌}
use Prim.Native.Nat.{ℕ}
use Rattle.std.specs.Prelude.{Option, Some, None}
use native.Mathlib.Omega.{arith}
use lib.ListN.{length}
use Rattle.base.specs.Choice.{choose}
use Rattle.base.proofs.Refused.{first_none, none_applies, left_alone, left_done}
use Rattle.column.specs.declared.Device.{Device}
use Rattle.column.specs.declared.Lost.TheVariants.{One}
use Rattle.column.proofs.Mend.{mend_is_rebuild}
use Rattle.devices.specs.Refusals.{rebuild_refusal}
use Rattle.devices.proofs.Accepts.{rebuild_accepts}
use Rattle.shape.specs.declared.Geometry.{Geometry}
use Rattle.shape.specs.Refusals.{library, shape_refusals, encode_refusal}
use Rattle.shape.proofs.Places.{length_lift, lift_same}
use Rattle.shape.proofs.Refused.{well_shaped}
use Rattle.verdict.specs.Faulty.{faulty_of}
use Rattle.verdict.specs.Summary.{summary}
use Rattle.compare.specs.Compare.{verdicts, summary_of}
use Rattle.compare.specs.Repair.{unclear, refusal9, repair_refusal}
use Rattle.compare.proofs.Order.{shape_first, found_is, summary_then}
use Rattle.compare.proofs.Faulty.{Names, summary_known, faulty_right, clear_names}
use Rattle.stripe.specs.Stripe.{rebuilt, mended_on, repaired}
use Rattle.stripe.specs.Calls.{after_rebuild, after_repair, RebuildCall, RepairCall}

mended_long : (g : Geometry) (f : Option Device) (s : List ℕ) → length (mended_on g f s) ≡ length s
mended_long g (Some d) s = length_lift g _ s
mended_long g None s = refl

module _ (g : Geometry) (s : List ℕ) where
  pub repaired_long : length (repaired g s) ≡ length s
  repaired_long = mended_long g (faulty_of (summary (verdicts g s))) s

  -- a repair that is accepted: the stripe is well shaped, and the summary is 0 or names a device that the stripe has
  pub record Accepted : Type 0 where
    pub fits : encode_refusal g (length s) ≡ 0
    pub told : (summary (verdicts g s) ≡ 0) ⊎ ((d : Device) × Names g.n (summary (verdicts g s)) d)

  pub repair_accepted : repair_refusal g s ≡ 0 → Accepted
  repair_accepted e =
      let parts = first_none (shape_refusals library g (length s)) (refusal9 g s ∷ []) refl e in
      record {
        fits = parts.0;
        told = clear_names g.n (summary (verdicts g s)) (summary_known g s) (none_applies (refusal9 g s ∷ []) refl parts.1).0;
      }

  pub repair_refused : repair_refusal g s ≢ 0 → after_repair g s ≡ s
  unfolding after_repair
  repair_refused n = left_alone (repair_refusal g s) (repaired g s) s n

  -- what it leaves
  module _ (accepted : repair_refusal g s ≡ 0) where
    pub repair_clean : summary (verdicts g s) ≡ 0 → after_repair g s ≡ s
    unfolding after_repair
    repair_clean e =
        left_done (repair_refusal g s) (repaired g s) s accepted ∙ ap (λ (v : ℕ). mended_on g (faulty_of v) s) e

    -- a repair that names a device is its rebuild, which is accepted
    module _ (d : Device) (names : Names g.n (summary (verdicts g s)) d) where
      pub rebuild_accepted : rebuild_refusal g (length s) (One d) ≡ 0
      rebuild_accepted = rebuild_accepts g (length s) (repair_accepted accepted).fits (One d) names.known

      pub repair_names : after_repair g s ≡ after_rebuild g (One d) s
      unfolding after_repair after_rebuild
      repair_names =
          left_done (repair_refusal g s) (repaired g s) s accepted
          ∙ ap (λ (v : ℕ). mended_on g (faulty_of v) s) names.is
          ∙ ap (λ (f : Option Device). mended_on g f s) (faulty_right d)
          ∙ lift_same g s (mend_is_rebuild g.n (well_shaped g s (repair_accepted accepted).fits).disks d names.known)
          ∙ sym (left_done (rebuild_refusal g (length s) (One d)) (rebuilt g (One d) s) s rebuild_accepted)

-- ---- a call, by the tests that it makes: k is what refusals 1 to 3 give, v the summary, and r what refusal 9 gives
module _ (g : Geometry) (s : List ℕ) {k : ℕ} (first : k ≡ encode_refusal g (length s)) where
  refused_call : {r : ℕ} → r ≡ repair_refusal g s → r ≢ 0 → RepairCall g s r s
  refused_call e n = record { result = e; stripe = sym (repair_refused g s (λ none. n (e ∙ none))) }

  pub shape_refuses : k ≢ 0 → RepairCall g s k s
  shape_refuses n = refused_call (shape_first g s first n) n

  module _ (none : k ≡ 0) {v r : ℕ} (found : v ≡ summary_of g s) (second : r ≡ choose (unclear v) 9 0) where
    is : v ≡ summary (verdicts g s)
    is = found_is g s first none found

    order : r ≡ repair_refusal g s
    order = summary_then g s first none found second

    pub summary_refuses : r ≢ 0 → RepairCall g s r s
    summary_refuses = refused_call order

    module _ (clear : r ≡ 0) where
      accepted : repair_refusal g s ≡ 0
      accepted = sym order ∙ clear

      pub named_rebuilds : {d : Device} {q : ℕ} {t : List ℕ} → faulty_of v ≡ Some d → RebuildCall g (One d) s q t → RepairCall g s q t
      named_rebuilds {d} {q} {t} names call = ⊎_elim never rebuilds (repair_accepted g s accepted).told
        where
          never : summary (verdicts g s) ≡ 0 → RepairCall g s q t
          never e = let wrong : Some d ≡ None = sym names ∙ ap faulty_of (is ∙ e) in let z : ◌≡◌ {A = ℕ} 0 1 = cc in absurd (omega arith)

          rebuilds : (d : Device) × Names g.n (summary (verdicts g s)) d → RepairCall g s q t
          rebuilds h =
              let one : Some h.0 ≡ Some d = sym (faulty_right h.0) ∙ ap faulty_of (sym (is ∙ h.1.is)) ∙ names in
              let same : h.0 ≡ d = cc in
              let known = subst (Names g.n (summary (verdicts g s))) same h.1 in
              record {
                result = call.result ∙ rebuild_accepted g s accepted d known ∙ sym accepted;
                stripe = call.stripe ∙ sym (repair_names g s accepted d known);
              }

      pub none_stays : faulty_of v ≡ None → RepairCall g s 0 s
      none_stays e = ⊎_elim stays never (repair_accepted g s accepted).told
        where
          stays : summary (verdicts g s) ≡ 0 → RepairCall g s 0 s
          stays zero = record { result = sym accepted; stripe = sym (repair_clean g s accepted zero) }

          never : (d : Device) × Names g.n (summary (verdicts g s)) d → RepairCall g s 0 s
          never h =
              let wrong : Some h.0 ≡ None = sym (faulty_right h.0) ∙ ap faulty_of (sym (is ∙ h.1.is)) ∙ e in
              let z : ◌≡◌ {A = ℕ} 0 1 = cc in
              absurd (omega arith)
