-- A line that is put together from words, a number and words is the line of the definition.
-- Assumes nothing.
use mathlib.Core.Path.{◌≡◌, refl}
use mathlib.Core.Logic.{◌≢◌}
use mathlib.Core.List.{List, ◌++◌, append_assoc}
use Prim.Native.Nat.{ℕ, zero, suc}
use lib.ListN.{get_or}
use Rattle.serials.specs.Bytes.{bytes}
use Rattle.std.specs.Prelude.{Option, Some, None}
use Rattle.lines.specs.declared.Fault.{Fault}
use Rattle.lines.specs.Faults.{number_of}
use Rattle.roster_answer.specs.Words.{decimal, reason, found_line, refused_line}
use Rattle.roster_answer.specs.Answer.{told, Begins}

-- of a text that is refused, what is found doesn't matter
pub told_refused : (k : ℕ) (values : List ℕ) (found : Option ℕ) → k ≢ 0 → told k values found ≡ refused_line k (get_or values 0 0)
told_refused zero values found n = absurd (n refl)
told_refused (suc k) values found n = refl

module _ {out after : List ℕ} {r : ℕ} where
  pub told_slot : {found : Option ℕ} (k : ℕ) → found ≡ Some k
      → Begins ((bytes "slot " ++ decimal k) ++ bytes "\n") out r after → Begins (found_line found) out r after
  told_slot k e call = rw e (rw append_assoc at call)

  pub told_none : {found : Option ℕ} → found ≡ None → Begins (bytes "none\n") out r after → Begins (found_line found) out r after
  told_none e call = rw e call

  pub told_fault : {fault : Fault} (f : Fault) (line : ℕ) → fault ≡ f
      → Begins (((bytes "refused " ++ (decimal (number_of f) ++ bytes " line ")) ++ decimal line) ++ (bytes ": " ++ (bytes (reason (number_of f)) ++ bytes "\n")))
      out r after
      → Begins (refused_line (number_of fault) line) out r after
  told_fault f line e call = rw e (simp append_assoc at call)
