-- Of the asked serial 21 bytes are enough: no line that is accepted has more than 20, so that a longer one is found nowhere.
-- Assumes nothing.
use mathlib.Core.Path.{◌≡◌, sym, ◌∙◌}
use mathlib.Core.Logic.{⊎_elim}
use mathlib.Core.List.{List}
use Prim.Native.Nat.{ℕ, ◌<◌}
use native.Mathlib.Omega.{arith}
use native.Mathlib.Decide.{ℕ_discrete}
use lib.ListN.{length, take, length-take}
use lib.Seq.{take_all}
use Rattle.base.proofs.Choice.{below_or_not}
use Rattle.std.specs.Prelude.{None}
use Rattle.serials.specs.Serials.{serials}
use Rattle.serials.specs.LookUp.{look_up}
use Rattle.roster.specs.Text.{line_ends}
use Rattle.roster.specs.Calls.{read_answer}
use Rattle.roster.proofs.Roster.{long_nowhere}
use Rattle.roster.proofs.Tells.{accepted_roster}
use Rattle.roster_answer.specs.Answer.{told, answer_text}
use Rattle.roster_buffers.specs.Kept.{asked_size}
use Rattle.roster_answer.proofs.Told.{told_refused}

nowhere : (text asked : List ℕ) → (read_answer text).number ≡ 0 → 20 < length asked → look_up (serials text (line_ends text)) asked ≡ None
nowhere text asked e h = long_nowhere (accepted_roster text e) asked h

pub asked_enough : (text asked : List ℕ) → answer_text text asked ≡ answer_text text (take asked_size asked)
unfolding answer_text
asked_enough text asked =
    ⊎_elim (λ h. longer h (ℕ_discrete (read_answer text).number 0)) (λ h. rw (take_all asked_size asked h)) (below_or_not asked_size (length asked))
  where
    longer : asked_size < length asked → Dec ((read_answer text).number ≡ 0)
        → told (read_answer text).number (read_answer text).values (look_up (serials text (line_ends text)) asked)
        ≡ told (read_answer text).number (read_answer text).values (look_up (serials text (line_ends text)) (take asked_size asked))
    longer h (yes e) = rw (nowhere text asked e (omega arith), nowhere text (take asked_size asked) e (omega (arith, length-take asked_size asked)))
    longer h (no n) =
        told_refused (read_answer text).number (read_answer text).values _ n ∙ sym (told_refused (read_answer text).number (read_answer text).values _ n)
