-- A repair's order tested in two steps: k is what refusals 1 to 3 give, v the summary, and r what refusal 9 gives.
-- Assumes nothing.
use mathlib.Core.Path.{◌≡◌, refl, sym, ap, ◌∙◌}
use mathlib.Core.Logic.{◌≢◌}
use mathlib.Core.List.{List, [], ◌∷◌}
use Prim.Native.Nat.{ℕ}
use borrow.Author.Tests.{eq-eqb}
use lib.ListN.{length}
use Rattle.base.specs.Choice.{choose}
use Rattle.base.proofs.Refused.{refused_first, refused_then}
use Rattle.shape.specs.declared.Geometry.{Geometry}
use Rattle.shape.specs.Refusals.{library, shape_refusals, encode_refusal}
use Rattle.verdict.specs.Summary.{summary}
use Rattle.compare.specs.Compare.{verdicts, summary_of}
use Rattle.compare.specs.Repair.{unclear, refusal9, repair_refusal}

module _ (g : Geometry) (s : List ℕ) {k : ℕ} (first : k ≡ encode_refusal g (length s)) where
  pub shape_first : k ≢ 0 → k ≡ repair_refusal g s
  shape_first = refused_first (shape_refusals library g (length s)) (refusal9 g s ∷ []) first

  module _ (none : k ≡ 0) {v : ℕ} (found : v ≡ summary_of g s) where
    pub found_is : v ≡ summary (verdicts g s)
    found_is = rw (eq-eqb (encode_refusal g (length s)) 0 (sym first ∙ none)) at found

    pub summary_then : {r : ℕ} → r ≡ choose (unclear v) 9 0 → r ≡ repair_refusal g s
    summary_then second =
        refused_then (shape_refusals library g (length s)) (refusal9 g s ∷ []) first refl none (second ∙ ap (λ (v : ℕ). choose (unclear v) 9 0) found_is)
