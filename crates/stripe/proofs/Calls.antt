-- A call of check, refused and done, from its answer and the buffer that it leaves.
-- Assumes nothing.
use mathlib.Core.Path.{◌≡◌, refl, sym, ap, ◌∙◌}
use mathlib.Core.Logic.{◌≢◌}
use mathlib.Core.List.{List, [], ◌∷◌}
use Prim.Native.Nat.{ℕ, zero, suc}
use borrow.Author.Tests.{eq-eqb}
use lib.ListN.{length}
use Rattle.base.specs.Refusal.{answered}
use Rattle.base.proofs.Refused.{leaves_alone}
use Rattle.shape.specs.declared.Geometry.{Geometry}
use Rattle.shape.specs.Refusals.{check_refusal}
use Rattle.std.specs.Prelude.{Result, Ok, Err}
use Rattle.compare.specs.Compare.{verdicts, after_check, CompareCall}
use Rattle.verdict.specs.Summary.{summary}
use Rattle.stripe.specs.Calls.{answer_of, checked_of, CheckCall}

checked_refused : (k v : ℕ) → k ≢ 0 → checked_of k v ≡ Err k
checked_refused zero v n = absurd (n refl)
checked_refused (suc k) v n = refl

checked_answer : (k v : ℕ) → answer_of (checked_of k v) ≡ answered k (v ∷ [])
checked_answer zero v = refl
checked_answer (suc k) v = refl

module _ (g : Geometry) (s before : List ℕ) where
  abbrev refusal : ℕ
  refusal = check_refusal g (length s) (length before)

  called : (r : Result ℕ ℕ) (after : List ℕ) → r ≡ checked_of refusal (summary (verdicts g s)) → after ≡ after_check g s before → CheckCall g s before r after
  called r after e h = record { answer = ap answer_of e ∙ checked_answer refusal (summary (verdicts g s)); result = e; room = h }

  pub check_refused : (k : ℕ) → k ≡ refusal → k ≢ 0 → CheckCall g s before (Err k) before
  unfolding after_check
  check_refused k e n =
      called (Err k) before
      (sym (checked_refused k (summary (verdicts g s)) n) ∙ ap (λ (k : ℕ). checked_of k (summary (verdicts g s))) e)
      (leaves_alone (verdicts g s) before e n)

  pub check_done : {k v : ℕ} {after : List ℕ} → k ≡ refusal → k ≡ 0 → CompareCall g s before v after → CheckCall g s before (Ok v) after
  check_done e none h =
      let accepted = sym e ∙ none in
      called (Ok _) _ (ap Ok (rw (eq-eqb _ _ accepted) at h.result) ∙ sym (ap (λ (k : ℕ). checked_of k (summary (verdicts g s))) accepted)) h.room
