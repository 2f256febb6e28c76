-- What each call answers and leaves in every buffer that it is lent, refused or done.
use Rattle.std.specs.Prelude.{ℕ, zero, suc, ◌≡◌, List, [], ◌∷◌, length, Option, Some, None, Result, Ok, Err}
use Rattle.shape.specs.declared.Geometry.{Geometry}
use Rattle.column.specs.declared.Lost.{Lost}
use Rattle.devices.specs.Codes.{naming_of, named_refusal}
use Rattle.base.specs.Refusal.{unless_refused, Answer, answered}
use Rattle.verdict.specs.Summary.{summary}
use Rattle.compare.specs.Compare.{verdicts, after_check}
use Rattle.compare.specs.Repair.{repair_refusal}
use Rattle.stripe.specs.Stripe.{encoded, rebuilt, repaired}
use Rattle.shape.specs.Refusals.{encode_refusal, check_refusal}
use Rattle.devices.specs.Refusals.{rebuild_refusal}

-- the stripe after a call
unfoldable pub after_encode : Geometry → List ℕ → List ℕ
after_encode g s = unless_refused (encode_refusal g (length s)) (encoded g s) s

unfoldable pub after_rebuild : Geometry → Lost → List ℕ → List ℕ
after_rebuild g lost s = unless_refused (rebuild_refusal g (length s) lost) (rebuilt g lost s) s

unfoldable pub after_repair : Geometry → List ℕ → List ℕ
after_repair g s = unless_refused (repair_refusal g s) (repaired g s) s

-- a rebuild where codes name the loss; those that name none are refused
abbrev pub rebuilt_by : Geometry → Option Lost → List ℕ → List ℕ
rebuilt_by g (Some lost) s = after_rebuild g lost s
rebuilt_by g None s = s

-- A check's answer in numbers: a refusal is its number alone, and with result 0 comes the summary.
abbrev pub answer_of : Result ℕ ℕ → Answer
answer_of (Err k) = record { number = k; values = [] }
answer_of (Ok v) = record { number = 0; values = v ∷ [] }

abbrev pub checked_of : ℕ → ℕ → Result ℕ ℕ
checked_of zero v = Ok v
checked_of (suc k) v = Err (suc k)

-- ---- the contracts: the result r and the final buffers, each equal to its definition
pub record EncodeCall (g : Geometry) (before : List ℕ) (r : ℕ) (after : List ℕ) : Type 0 where
  pub result : r ≡ encode_refusal g (length before)
  pub stripe : after ≡ after_encode g before

pub record RebuildCall (g : Geometry) (lost : Lost) (before : List ℕ) (r : ℕ) (after : List ℕ) : Type 0 where
  pub result : r ≡ rebuild_refusal g (length before) lost
  pub stripe : after ≡ after_rebuild g lost before

-- rebuild with the devices given by their codes
pub record RebuildNamedCall (g : Geometry) (first second : ℕ) (before : List ℕ) (r : ℕ) (after : List ℕ) : Type 0 where
  pub result : r ≡ named_refusal g (length before) (naming_of first second)
  pub stripe : after ≡ rebuilt_by g (naming_of first second) before

pub record CheckCall (g : Geometry) (s before : List ℕ) (r : Result ℕ ℕ) (after : List ℕ) : Type 0 where
  pub answer : answer_of r ≡ answered (check_refusal g (length s) (length before)) (summary (verdicts g s) ∷ [])
  pub result : r ≡ checked_of (check_refusal g (length s) (length before)) (summary (verdicts g s))
  pub room : after ≡ after_check g s before

pub record RepairCall (g : Geometry) (before : List ℕ) (r : ℕ) (after : List ℕ) : Type 0 where
  pub result : r ≡ repair_refusal g before
  pub stripe : after ≡ after_repair g before
