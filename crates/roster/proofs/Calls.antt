-- A call that answers as its definition says, and leaves what it was lent or what it made, meets its contract.
-- Assumes nothing.
use mathlib.Core.Path.{◌≡◌, refl, sym, ap, ◌∙◌}
use mathlib.Core.Logic.{◌≢◌}
use mathlib.Core.List.{List, [], map}
use Prim.Native.Nat.{ℕ, ◌≤◌, ◌<◌}
use native.Mathlib.Omega.{arith}
use borrow.Author.Tests.{lt-ltb, le-ltb}
use lib.ListN.{length, get_or}
use Rattle.base.specs.Refusal.{Answer}
use Rattle.base.proofs.Refused.{left_alone, left_done}
use Rattle.std.specs.Prelude.{Result, Ok, Err}
use Rattle.lines.proofs.Faults.{not_zero, some_found}
use Rattle.lines.proofs.FirstFault.{fine_faultless, faultless_fine}
use Rattle.roster.specs.declared.FaultyLine.{FaultyLine}
use Rattle.roster.specs.declared.WriteError.{WriteError}
use Rattle.roster.specs.declared.WriteError.TheVariants.{NoRoom}
use Rattle.roster.specs.Text.{roster_text, line_ends}
use Rattle.roster.specs.Calls.{done, faulty_answer, written_of, read_answer, as_line, room_answer, judge_answer, write_answer, begun_with, ReadCall, WriteCall}

module _ {text before : List ℕ} where
  pub read_left : (f : FaultyLine) → read_answer text ≡ faulty_answer f → ReadCall text before (Err f) before
  read_left f e =
      record {
        answer = sym e;
        ends = sym (left_alone (read_answer text).number _ before (λ z. not_zero f.fault (sym (ap (λ (a : Answer). a.number) e) ∙ z)));
      }

  pub read_done : {slots : ℕ} {after : List ℕ} → read_answer text ≡ done slots → after ≡ begun_with (line_ends text) before
      → ReadCall text before (Ok slots) after
  read_done e is = record { answer = sym e; ends = is ∙ sym (left_done (read_answer text).number _ before (ap (λ (a : Answer). a.number) e)) }

-- ---- the writer judges the serials first
module _ (ss : List (List ℕ)) (room : ℕ) where
  pub answer_refused : (judge_answer ss).number ≢ 0 → write_answer ss room ≡ judge_answer ss
  unfolding judge_answer write_answer
  answer_refused n = some_found (done (length (roster_text ss))) _ refl [] (map as_line ss) n

  -- the serials passed
  module _ (e : (judge_answer ss).number ≡ 0) where
    pub judged_length : judge_answer ss ≡ done (length (roster_text ss))
    unfolding judge_answer
    judged_length = (fine_faultless (map as_line ss) (done (length (roster_text ss))) e).1

    pub answer_room : write_answer ss room ≡ room_answer room (roster_text ss)
    unfolding judge_answer write_answer
    answer_room =
        faultless_fine (map as_line ss) (room_answer room (roster_text ss)) (fine_faultless (map as_line ss) (done (length (roster_text ss))) e).0

module _ (ss : List (List ℕ)) (before : List ℕ) where
  write_left : {r : Result ℕ WriteError} → written_of r ≡ write_answer ss (length before) → (written_of r).number ≢ 0 → WriteCall ss before r before
  write_left {r} e n =
      record {
        answer = e;
        output = sym (left_alone (write_answer ss (length before)).number _ before (λ z. n (ap (λ (a : Answer). a.number) e ∙ z)));
      }

  pub write_refused : {r : Result ℕ WriteError} → written_of r ≡ judge_answer ss → (written_of r).number ≢ 0 → WriteCall ss before r before
  write_refused {r} e n =
      write_left (e ∙ sym (answer_refused ss (length before) (λ z. n (ap (λ (a : Answer). a.number) e ∙ z)))) n

  module _ {n : ℕ} (e : done n ≡ judge_answer ss) where
    accepted : (judge_answer ss).number ≡ 0
    accepted = sym (ap (λ (a : Answer). a.number) e)

    pub text_length : n ≡ length (roster_text ss)
    text_length = ap (λ (a : Answer). get_or a.values 0 0) (e ∙ judged_length ss (length before) accepted)

    pub write_no_room : length before < n → WriteCall ss before (Err NoRoom) before
    write_no_room h =
        write_left (sym (answer_room ss (length before) accepted ∙ rw (lt-ltb (length before) (length (roster_text ss)) (omega (arith, text_length))))) (λ z. omega arith)

    pub write_done : n ≤ length before → {after : List ℕ} → after ≡ begun_with (roster_text ss) before → WriteCall ss before (Ok n) after
    write_done h is =
        let answer : write_answer ss (length before) ≡ done (length (roster_text ss)) =
        answer_room ss (length before) accepted ∙ rw (le-ltb (length before) (length (roster_text ss)) (omega (arith, text_length)))
        in
        record { answer = ap done text_length ∙ sym answer; output = is ∙ sym (left_done (write_answer ss (length before)).number _ before (ap (λ (a : Answer). a.number) answer)) }
