-- What an answer tells. Done, there is a roster, and its ends or its text stand at the start of the buffer; refused, there is the first fault, or no room, and
-- the buffer is as it was.
-- Assumes nothing.
use mathlib.Core.Path.{◌≡◌, refl, sym, ap, ◌∙◌, subst}
use mathlib.Core.Logic.{◌≢◌, ⊎_elim}
use mathlib.Core.Bool.{Bool, true, false}
use mathlib.Core.List.{List, [], map}
use Prim.Native.Nat.{ℕ, ◌≤◌, ◌<◌}
use native.Mathlib.Omega.{arith}
use borrow.Author.Tests.{ltb-true}
use lib.Dec.{ltb}
use lib.ListN.{length, get_or, take, drop}
use lib.Seq.{take_at, drop_at}
use Rattle.base.specs.Choice.{choose}
use Rattle.base.specs.Refusal.{Answer, unless_refused}
use Rattle.base.proofs.Refused.{left_alone, left_done}
use Rattle.std.specs.Prelude.{Some, None, Ok, Err}
use Rattle.serials.specs.Serials.{serials}
use Rattle.serials.specs.LookUp.{look_up}
use Rattle.lines.specs.declared.Fault.{Fault}
use Rattle.lines.specs.Lines.{lines}
use Rattle.lines.specs.Faults.{number_of}
use Rattle.lines.specs.FirstFault.{serials_of, Faultless, FirstFault}
use Rattle.lines.proofs.Faults.{not_zero}
use Rattle.lines.proofs.FirstFault.{search_outcome, fine_faultless, first_fault_lem, fault_most}
use Rattle.roster.specs.declared.FaultyLine.{FaultyLine}
use Rattle.roster.specs.declared.WriteError.TheVariants.{Faulty, NoRoom}
use Rattle.roster.specs.Text.{roster_text, line_ends}
use Rattle.roster.specs.Calls.{read_of, written_of, read_answer, write_answer, as_line, begun_with, ReadCall, WriteCall}
use Rattle.roster.specs.Roster.{Roster}
use Rattle.roster.proofs.Roster.{count_of, serials_as_lines, is_roster, each_found, long_nowhere}
use Rattle.roster.proofs.Text.{length_ends}
use Rattle.roster.proofs.Lines.{serials_of_lines}
use Rattle.roster.proofs.Apart.{not_35}

abbrev number : Answer → ℕ
number a = a.number

abbrev pub value : Answer → ℕ
value a = get_or a.values 0 0

-- ---- the reader's answers
module _ (text : List ℕ) where
  pub slots_tell : {n : ℕ} → read_of (Ok n) ≡ read_answer text → Faultless (lines text) × (n ≡ length (lines text))
  unfolding read_answer
  slots_tell e =
      let p = fine_faultless (lines text) (read_of (Ok (length (lines text)))) (sym (ap number e)) in
      (p.0, ap value (e ∙ p.1))

  pub reading_refused_tells : (f : FaultyLine) → read_of (Err f) ≡ read_answer text → FirstFault (lines text) f.line (number_of f.fault)
  unfolding read_answer
  reading_refused_tells f e = first_fault_lem (lines text) (read_of (Ok (length (lines text)))) e (not_zero f.fault)

  pub accepted_roster : (read_answer text).number ≡ 0 → Roster (serials text (line_ends text))
  unfolding read_answer
  accepted_roster e = rw (serials_of_lines text) (is_roster (lines text) (fine_faultless (lines text) (read_of (Ok (length (lines text)))) e).0)

  pub refused_line_lem : (read_answer text).number ≢ 0 → value (read_answer text) ≤ 258
  unfolding read_answer
  refused_line_lem n =
      ⊎_elim (λ p. absurd (n (ap number p.1))) (λ p. rw p.3 (fault_most p.2)) (search_outcome (lines text) (read_of (Ok (length (lines text)))))

-- ---- the writer's answers
module _ (ss : List (List ℕ)) (room : ℕ) where
  -- where no line is faulty
  abbrev by_room : Bool → Answer
  by_room short = choose short (written_of (Err NoRoom)) (written_of (Ok (length (roster_text ss))))

  has_room : {n : ℕ} (short : Bool) → written_of (Ok n) ≡ by_room short → n ≡ length (roster_text ss)
  has_room true e = absurd (omega (arith, ap number e))
  has_room false e = ap value e

  lacks_room : (short : Bool) → written_of (Err NoRoom) ≡ by_room short → short ≡ true
  lacks_room true e = refl
  lacks_room false e = absurd (omega (arith, ap number e))

  no_fault : (f : Fault) (short : Bool) → number_of f ≢ (by_room short).number
  no_fault f true = not_35 f
  no_fault f false = not_zero f

  faultless_roster : Faultless (map as_line ss) → Roster ss
  faultless_roster faultless = subst Roster (serials_as_lines ss) (is_roster (map as_line ss) faultless)

  abbrev short : Bool
  short = ltb room (length (roster_text ss))

  pub length_tells : {n : ℕ} → written_of (Ok n) ≡ write_answer ss room → Roster ss × (n ≡ length (roster_text ss))
  unfolding write_answer
  length_tells e =
      let p = fine_faultless (map as_line ss) (by_room short) (sym (ap number e)) in
      (faultless_roster p.0, has_room short (e ∙ p.1))

  pub writing_refused_tells : (f : FaultyLine) → written_of (Err (Faulty f)) ≡ write_answer ss room
      → FirstFault (map as_line ss) f.line (number_of f.fault)
  unfolding write_answer
  writing_refused_tells f e = first_fault_lem (map as_line ss) (by_room short) e (no_fault f.fault short)

  pub no_room_tells : written_of (Err NoRoom) ≡ write_answer ss room → Roster ss × (room < length (roster_text ss))
  unfolding write_answer
  no_room_tells e =
      ⊎_elim (λ p. (faultless_roster p.0, ltb-true room (length (roster_text ss)) (lacks_room short (e ∙ p.1))))
      (λ p. absurd (omega (arith, p.2.counted, ap value (e ∙ p.3))))
      (search_outcome (map as_line ss) (by_room short))

-- ---- the calls: a buffer that begins with new numbers, or is as it was
module _ (new before : List ℕ) {after : List ℕ} {k : ℕ} (is : after ≡ unless_refused k (begun_with new before) before) where
  begun : 0 ≡ k → after ≡ begun_with new before
  begun e = is ∙ left_done k (begun_with new before) before (sym e)

  begun_taken : {n : ℕ} → 0 ≡ k → n ≡ length new → take n after ≡ new
  begun_taken {n} e long = ap (take n) (begun e) ∙ take_at new (drop (length new) before) n (sym long)

  begun_rest : {n : ℕ} → 0 ≡ k → n ≡ length new → drop n after ≡ drop n before
  begun_rest {n} e long = ap (drop n) (begun e) ∙ drop_at new (drop (length new) before) n (sym long) ∙ rw long

  untouched : {j : ℕ} → j ≢ 0 → j ≡ k → after ≡ before
  untouched ne e = is ∙ left_alone k (begun_with new before) before (λ z. ne (e ∙ z))

module _ {text before after : List ℕ} {n : ℕ} (call : ReadCall text before (Ok n) after) where
  pub read_faultless : Faultless (lines text)
  read_faultless = (slots_tell text call.answer).0

  pub read_slots : n ≡ length (lines text)
  read_slots = (slots_tell text call.answer).1

  as_many : n ≡ length (line_ends text)
  as_many = read_slots ∙ sym (length_ends 0 (lines text))

  pub read_serials : serials text (take n after) ≡ serials_of (lines text)
  read_serials = ap (serials text) (begun_taken (line_ends text) before call.ends (ap number call.answer) as_many) ∙ serials_of_lines text

  pub read_rest : drop n after ≡ drop n before
  read_rest = begun_rest (line_ends text) before call.ends (ap number call.answer) as_many

  pub read_roster : Roster (serials text (take n after)) × (length (serials text (take n after)) ≡ n)
  read_roster = rw read_serials (is_roster (lines text) read_faultless, count_of (lines text) ∙ sym read_slots)

  pub read_found : (k : ℕ) → k < n → look_up (serials text (take n after)) (get_or (serials text (take n after)) k []) ≡ Some k
  read_found k h = each_found read_roster.0 k (omega (arith, read_roster.1))

  pub read_long_nowhere : (asked : List ℕ) → 20 < length asked → look_up (serials text (take n after)) asked ≡ None
  read_long_nowhere asked l = long_nowhere read_roster.0 asked l

module _ {text before after : List ℕ} {f : FaultyLine} (call : ReadCall text before (Err f) after) where
  pub read_refused : FirstFault (lines text) f.line (number_of f.fault) × (after ≡ before)
  read_refused =
      (reading_refused_tells text f call.answer, untouched (line_ends text) before call.ends (not_zero f.fault) (ap number call.answer))

module _ {ss : List (List ℕ)} {before after : List ℕ} {n : ℕ} (call : WriteCall ss before (Ok n) after) where
  pub written_roster : Roster ss
  written_roster = (length_tells ss (length before) call.answer).0

  pub written_length : n ≡ length (roster_text ss)
  written_length = (length_tells ss (length before) call.answer).1

  pub written_text : take n after ≡ roster_text ss
  written_text = begun_taken (roster_text ss) before call.output (ap number call.answer) written_length

  pub written_rest : drop n after ≡ drop n before
  written_rest = begun_rest (roster_text ss) before call.output (ap number call.answer) written_length

module _ {ss : List (List ℕ)} {before after : List ℕ} where
  pub write_refused : {f : FaultyLine} → WriteCall ss before (Err (Faulty f)) after
      → FirstFault (map as_line ss) f.line (number_of f.fault) × (after ≡ before)
  write_refused {f} call = (
    writing_refused_tells ss (length before) f call.answer,
    untouched (roster_text ss) before call.output (not_zero f.fault) (ap number call.answer),
  )

  pub no_room : WriteCall ss before (Err NoRoom) after
      → Roster ss × (length before < length (roster_text ss)) × (after ≡ before)
  no_room call =
      let p = no_room_tells ss (length before) call.answer in
      (p.0, p.1, untouched (roster_text ss) before call.output (λ e. omega arith) (ap number call.answer))
