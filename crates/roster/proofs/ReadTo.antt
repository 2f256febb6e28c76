-- A text that is read up to a place: the lines before it passed, and their ends are stored. It holds at the start, with each line that passes, and at the end
-- it says what the reader answers.
-- Assumes nothing.
use mathlib.Core.Path.{◌≡◌, refl, sym, ap, ap₂, ◌∙◌}
use mathlib.Core.Logic.{⊎_elim}
use mathlib.Core.List.{List, [], ◌∷◌, ◌++◌, append-nil}
use Prim.Native.Nat.{ℕ, suc, ◌+◌, ◌-◌, ◌≤◌, ◌<◌}
use native.Mathlib.Numerals.{add-one}
use native.Mathlib.Omega.{arith}
use borrow.Author.Tests.{lt-ltb, le-ltb}
use lib.Dec.{ltb}
use lib.ListN.{length, take, drop, set, length-set, length-drop, take-append-drop, drop_of_length-le}
use lib.Seq.{drop-drop, length-take-le, take-suc-set, drop-set-lt, append_snoc}
use Rattle.base.specs.Refusal.{Answer}
use Rattle.base.proofs.Choice.{below_or_not}
use Rattle.base.proofs.Tails.{part_length}
use Rattle.serials.specs.Serials.{serials_from, serials}
use Rattle.serials.proofs.Laws.{length_serials, serials_more}
use Rattle.lines.specs.declared.Fault.{Fault}
use Rattle.lines.specs.Lines.{Line, line_feed, lines}
use Rattle.lines.specs.Faults.{number_of, line_number, refused_at, first_fault}
use Rattle.lines.proofs.Faults.{fault_here, fault_later, fine_slot}
use Rattle.roster.specs.Text.{index_of, ends_from, line_ends}
use Rattle.roster.specs.Calls.{done, read_answer, begun_with}
use Rattle.roster.proofs.First.{first_line_lem}
use Rattle.roster.proofs.Text.{length_ends}

abbrev all_read : List ℕ → Answer
all_read text = done (length (lines text))

pub record ReadTo (text ends found : List ℕ) (slots start : ℕ) : Type 0 where
  pub most : slots ≤ 257
  pub room : length found ≡ 257
  pub answer : read_answer text ≡ first_fault (serials text (take slots found)) (lines (drop start text)) (all_read text)
  pub stored : line_ends text ≡ take slots found ++ ends_from start (lines (drop start text))
  pub next : (e : ℕ) → serials text (take slots found ++ (e ∷ [])) ≡ serials text (take slots found) ++ (take (e - start) (drop start text) ∷ [])
  pub rest : drop slots found ≡ drop slots ends

pub read_none : (text ends : List ℕ) → length ends ≡ 257 → ReadTo text ends ends 0 0
unfolding read_answer serials_from
read_none text ends size =
    record { most = omega arith; room = size; answer = refl; stored = refl; next = λ e. refl; rest = refl }

module _ (text : List ℕ) (start end : ℕ) (h : start < length text) (at : end ≡ start + index_of line_feed (drop start text)) where
  abbrev serial : List ℕ
  serial = take (end - start) (drop start text)

  abbrev rest : List ℕ
  rest = drop start text

  ended_here : ltb (index_of line_feed rest) (length rest) ≡ ltb end (length text)
  ended_here =
      let size = length-drop start text in
      let place = at in
      ⊎_elim (λ l. lt-ltb (index_of line_feed rest) (length rest) (omega arith) ∙ sym (lt-ltb end (length text) l))
      (λ l. le-ltb (index_of line_feed rest) (length rest) (omega arith) ∙ sym (le-ltb end (length text) l)) (below_or_not end (length text))

  after_here : drop (suc (index_of line_feed rest)) rest ≡ drop (suc end) text
  after_here =
      let place : start + suc (index_of line_feed rest) ≡ suc end = omega (arith, at) in
      drop-drop (suc (index_of line_feed rest)) start text ∙ ap (λ (n : ℕ). drop n text) place

  line_here : lines rest ≡ record { serial = serial; ended = ltb end (length text) } ∷ lines (drop (suc end) text)
  line_here =
      let bytes : index_of line_feed rest ≡ end - start = omega (arith, at) in
      first_line_lem rest (omega (arith, length-drop start text)) ∙ rw (ended_here, after_here, bytes)

  module _ {ends found : List ℕ} {slots : ℕ} (r : ReadTo text ends found slots start) (within : end ≤ length text) where
    abbrev number : ℕ
    number = line_number (serials text (take slots found)) serial (ltb end (length text))

    count : length (serials text (take slots found)) ≡ slots
    count = length_serials text 0 (take slots found) ∙ length-take-le slots found (omega arith)

    pub read_refused : (f : Fault) → number_of f ≡ number → read_answer text ≡ refused_at (number_of f) (slots + 1)
    read_refused f e =
        r.answer
        ∙ ap (λ (ls : List Line). first_fault (serials text (take slots found)) ls (all_read text)) line_here
        ∙ fault_here (serials text (take slots found)) serial (ltb end (length text)) (lines (drop (suc end) text)) (all_read text) f e
        ∙ ap (λ (n : ℕ). refused_at (number_of f) n) (omega (arith, count))

    pub read_room : 0 ≡ number → slots < 257
    read_room e = omega (arith, count, fine_slot (serials text (take slots found)) serial (ltb end (length text)) e)

    at_end : start + length serial ≡ end
    at_end = omega (arith, part_length text start end (omega arith) within)

    pub read_more : 0 ≡ number → ReadTo text ends (set found slots end) (slots + 1) (end + 1)
    unfolding ends_from
    read_more e =
        let low = read_room e in
        let here : take (slots + 1) (set found slots end) ≡ take slots found ++ (end ∷ []) = rw add-one (take-suc-set found slots end (omega arith)) in
        record {
          most = omega arith;
          room = length-set found slots end ∙ r.room;
          answer =
              rw (here, add-one)
              (r.answer
              ∙ ap (λ (ls : List Line). first_fault (serials text (take slots found)) ls (all_read text)) line_here
              ∙ fault_later (serials text (take slots found)) serial (ltb end (length text)) (lines (drop (suc end) text)) (all_read text) e
              ∙ ap (λ (ss : List (List ℕ)). first_fault ss (lines (drop (suc end) text)) (all_read text)) (sym (r.next end)));
          stored =
              rw (here, add-one)
              (r.stored
              ∙ ap (λ (ls : List Line). take slots found ++ ends_from start ls) line_here
              ∙ ap (λ (n : ℕ). take slots found ++ (n ∷ ends_from (suc n) (lines (drop (suc end) text)))) at_end
              ∙ sym (append_snoc (take slots found) end (ends_from (suc end) (lines (drop (suc end) text)))));
          next = λ e. rw (here, add-one) (serials_more text 0 (take slots found) end e);
          rest =
              drop-set-lt (slots + 1) found slots end (omega arith)
              ∙ sym (drop-drop 1 slots found)
              ∙ ap (drop 1) r.rest
              ∙ drop-drop 1 slots ends;
        }

pub read_all : {text ends found : List ℕ} {slots start : ℕ} → ReadTo text ends found slots start → length text ≤ start
    → (read_answer text ≡ done slots) × (found ≡ begun_with (line_ends text) ends)
unfolding lines first_fault ends_from
read_all {text} {ends} {found} {slots} {start} r h =
    let none : drop start text ≡ [] = drop_of_length-le text h in
    let all : line_ends text ≡ take slots found =
    r.stored ∙ ap (λ (t : List ℕ). take slots found ++ ends_from start (lines t)) none ∙ append-nil (take slots found)
    in
    let count : length (line_ends text) ≡ slots = ap length all ∙ length-take-le slots found (omega arith) in (
      r.answer
          ∙ ap (λ (t : List ℕ). first_fault (serials text (take slots found)) (lines t) (all_read text)) none
          ∙ ap done (sym (length_ends 0 (lines text)) ∙ count),
      sym (take-append-drop slots found) ∙ ap₂ ◌++◌ (sym all) (r.rest ∙ ap (λ (n : ℕ). drop n ends) (sym count)),
    )
