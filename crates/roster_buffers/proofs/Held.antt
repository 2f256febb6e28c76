-- An answer to the bytes that are held is the answer to the whole text and the whole serial.
-- Assumes nothing.
use mathlib.Core.Path.{◌≡◌, sym, ap₂, ◌∙◌}
use mathlib.Core.List.{List}
use Prim.Native.Nat.{ℕ}
use lib.ListN.{take}
use Rattle.roster_answer.specs.Answer.{answer_text, Begins}
use Rattle.roster_buffers.specs.Kept.{asked_size, Holds, AnswerHeldCall}
use Rattle.roster_buffers.proofs.Enough.{kept_answer}
use Rattle.roster_buffers.proofs.Asked.{asked_enough}

-- whichever text the held bytes are kept of, and whichever serial the asked bytes begin, that text and that serial are answered, whole
pub held_answered : {held asked before after : List ℕ} {n k r : ℕ} → AnswerHeldCall held n asked k before r after → (text serial : List ℕ)
    → Holds held n text → take k asked ≡ take asked_size serial → Begins (answer_text text serial) before r after
held_answered call text serial h is =
    rw (asked_enough text serial ∙ sym (kept_answer text (take asked_size serial)) ∙ sym (ap₂ answer_text h.bytes is)) call.answer
