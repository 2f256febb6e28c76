-- The round trips: what was written reads as the same serials, and what was read is written as the same bytes. The lines of a roster's text are its
-- serials, and a text whose lines are all ended is the one that its serials write.
-- Assumes nothing.
use mathlib.Core.Path.{◌≡◌, ap, ◌∙◌, subst}
use mathlib.Core.List.{List, map}
use Prim.Native.Nat.{ℕ, ◌≤◌}
use borrow.Author.Tests.{le-ltb, not-false}
use lib.ListN.{length, get_or, take, length-map}
use Rattle.serials.specs.Serials.{serials}
use Rattle.lines.specs.Lines.{lines}
use Rattle.lines.specs.FirstFault.{no_line}
use Rattle.lines.proofs.FirstFault.{faultless_fine}
use Rattle.std.specs.Prelude.{Result, Ok}
use Rattle.roster.specs.declared.FaultyLine.{FaultyLine}
use Rattle.roster.specs.declared.WriteError.{WriteError}
use Rattle.roster.specs.Text.{roster_text}
use Rattle.roster.specs.Calls.{read_of, written_of, read_answer, write_answer, as_line, ReadCall, WriteCall}
use Rattle.roster.specs.Roster.{Roster}
use Rattle.roster.proofs.Roster.{serials_as_lines, passed, roster_faultless}
use Rattle.roster.proofs.Lines.{lines_of_text, all_ended, text_of_lines}
use Rattle.roster.proofs.Apart.{read_apart, written_apart}
use Rattle.roster.proofs.Tells.{read_faultless, read_serials, read_roster, written_text, written_roster}

-- ---- a roster is written where there is room, and its text is read as it
module _ (ss : List (List ℕ)) (roster : Roster ss) where
  text_lines : lines (roster_text ss) ≡ map as_line ss
  text_lines = lines_of_text ss roster.serial

  reads : read_answer (roster_text ss) ≡ read_of (Ok (length ss))
  unfolding read_answer
  reads = rw (text_lines, length-map ss as_line) (faultless_fine (map as_line ss) (read_of (Ok (length ss))) (roster_faultless roster))

  writes : (room : ℕ) → length (roster_text ss) ≤ room → write_answer ss room ≡ written_of (Ok (length (roster_text ss)))
  unfolding write_answer
  writes room fits =
      rw (le-ltb room (length (roster_text ss)) fits)
      (faultless_fine (map as_line ss) (written_of (Ok (length (roster_text ss)))) (roster_faultless roster))

  pub roster_read : {before after : List ℕ} {r : Result ℕ FaultyLine} → ReadCall (roster_text ss) before r after
      → (r ≡ Ok (length ss)) × (serials (roster_text ss) (take (length ss) after) ≡ ss)
  roster_read {before} {after} {r} call =
      let is = read_apart r (Ok (length ss)) (call.answer ∙ reads) in
      (is, read_serials (subst (λ (r : Result ℕ FaultyLine). ReadCall (roster_text ss) before r after) is call) ∙ rw text_lines (serials_as_lines ss))

pub roster_written : {ss : List (List ℕ)} {out out' : List ℕ} {r : Result ℕ WriteError} → Roster ss → WriteCall ss out r out'
    → length (roster_text ss) ≤ length out
    → (r ≡ Ok (length (roster_text ss))) × (take (length (roster_text ss)) out' ≡ roster_text ss)
roster_written {ss} {out} {out'} {r} roster call fits =
    let is = written_apart r (Ok (length (roster_text ss))) (call.answer ∙ writes ss roster (length out) fits) in
    (is, written_text (subst (λ (r : Result ℕ WriteError). WriteCall ss out r out') is call))

-- ---- written, then read
pub read_back : {ss : List (List ℕ)} {out out' before after : List ℕ} {n : ℕ} {r : Result ℕ FaultyLine}
    → WriteCall ss out (Ok n) out' → ReadCall (take n out') before r after
    → (r ≡ Ok (length ss)) × (serials (take n out') (take (length ss) after) ≡ ss)
read_back {ss} wrote call = rw (written_text wrote) (roster_read ss (written_roster wrote) (rw (written_text wrote) at call))

-- ---- read, then written
module _ {text before after : List ℕ} {n : ℕ} (call : ReadCall text before (Ok n) after) where
  text_read : roster_text (serials text (take n after)) ≡ text
  text_read =
      ap roster_text (read_serials call)
      ∙ text_of_lines text
      (all_ended (lines text) (λ k h. not-false (get_or (lines text) k no_line).ended (passed (lines text) (read_faultless call) k h).1.1.0))

  pub write_back : {out out' : List ℕ} {r : Result ℕ WriteError} → WriteCall (serials text (take n after)) out r out' → length text ≤ length out
      → (r ≡ Ok (length text)) × (take (length text) out' ≡ text)
  write_back wrote fits = rw text_read at (roster_written (read_roster call).0 wrote (rw text_read fits))
