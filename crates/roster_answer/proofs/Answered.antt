-- What the reader's call tells of the answer: where it counts slots, the serials that are searched, and where it refuses, the refusal.
-- Assumes nothing.
use mathlib.Core.Path.{◌≡◌, sym, ap, subst, ◌∙◌}
use mathlib.Core.List.{List, [], ◌∷◌}
use Prim.Native.Nat.{ℕ, ◌≤◌}
use native.Mathlib.Omega.{arith}
use lib.ListN.{length, take, length-take}
use Rattle.base.specs.Refusal.{Answer}
use Rattle.serials.specs.Serials.{serials}
use Rattle.serials.specs.LookUp.{look_up}
use Rattle.serials.proofs.Laws.{length_serials}
use Rattle.lines.specs.Faults.{number_of}
use Rattle.lines.proofs.Faults.{not_zero}
use Rattle.std.specs.Prelude.{Result, Ok, Err}
use Rattle.roster.specs.declared.FaultyLine.{FaultyLine}
use Rattle.roster.specs.Calls.{read_of, ReadCall}
use Rattle.roster.proofs.Lines.{serials_of_lines}
use Rattle.roster.proofs.Tells.{read_serials, read_roster}
use Rattle.roster_answer.specs.Words.{found_line, refused_line}
use Rattle.roster_answer.specs.Answer.{answer_text}
use Rattle.roster_answer.proofs.Told.{told_refused}

module _ {text before after : List ℕ} {r : Result ℕ FaultyLine} (call : ReadCall text before r after) where
  module _ (n : ℕ) (is : r ≡ Ok n) where
    done : ReadCall text before (Ok n) after
    done = subst (λ (r : Result ℕ FaultyLine). ReadCall text before r after) is call

    pub slots_within : n ≤ length after
    slots_within = omega (arith, (read_roster done).1, length_serials text 0 (take n after), length-take n after)

    pub slots_found : (asked : List ℕ) → answer_text text asked ≡ found_line (look_up (serials text (take n after)) asked)
    unfolding answer_text
    slots_found asked = rw (← ap (λ (a : Answer). a.number) done.answer, read_serials done) (rw (serials_of_lines text))

  pub fault_told : (f : FaultyLine) → r ≡ Err f → (asked : List ℕ) → answer_text text asked ≡ refused_line (number_of f.fault) f.line
  unfolding answer_text
  fault_told f is asked = rw (sym call.answer ∙ ap read_of is) (told_refused (number_of f.fault) (f.line ∷ []) _ (not_zero f.fault))
