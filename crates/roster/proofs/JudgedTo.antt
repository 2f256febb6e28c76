-- Serials that are judged up to a slot: those before it passed, and the length of their text is counted. It holds at the start, with each serial that passes,
-- and at the end it says what is answered.
-- Assumes nothing.
use mathlib.Core.Path.{◌≡◌, refl, sym, ap, ◌∙◌}
use mathlib.Core.Bool.{true}
use mathlib.Core.List.{List, [], ◌∷◌, map}
use Prim.Native.Nat.{ℕ, suc, ◌+◌, ◌*◌, ◌≤◌, ◌<◌}
use native.Mathlib.Numerals.{add-one}
use native.Mathlib.Omega.{arith}
use lib.ListN.{length, get_or, take, drop, drop_of_length-le}
use lib.Seq.{take_all, take-suc, drop-cons, length-take-le}
use Rattle.base.specs.Refusal.{Answer}
use Rattle.lines.specs.declared.Fault.{Fault}
use Rattle.lines.specs.Faults.{number_of, line_number, refused_at, first_fault}
use Rattle.lines.proofs.Faults.{fault_here, fault_later, fine_slot, fine_length}
use Rattle.roster.specs.Text.{roster_text}
use Rattle.roster.specs.Calls.{done, as_line, judge_answer}
use Rattle.roster.proofs.Text.{length_more}

abbrev all_written : List (List ℕ) → Answer
all_written ss = done (length (roster_text ss))

pub record JudgedTo (ss : List (List ℕ)) (slot count : ℕ) : Type 0 where
  pub most : slot ≤ 257
  pub within : slot ≤ length ss
  pub small : count ≤ 21 * slot
  pub long : count ≡ length (roster_text (take slot ss))
  pub answer : judge_answer ss ≡ first_fault (take slot ss) (map as_line (drop slot ss)) (all_written ss)

pub judged_none : (ss : List (List ℕ)) → JudgedTo ss 0 0
unfolding judge_answer roster_text
judged_none ss = record { most = omega arith; within = omega arith; small = omega arith; long = refl; answer = refl }

module _ (ss : List (List ℕ)) (slot count : ℕ) (r : JudgedTo ss slot count) (h : slot < length ss) where
  abbrev serial : List ℕ
  serial = get_or ss slot []

  abbrev number : ℕ
  number = line_number (take slot ss) serial true

  before : length (take slot ss) ≡ slot
  before = length-take-le slot ss (omega arith)

  here : judge_answer ss ≡ first_fault (take slot ss) (as_line serial ∷ map as_line (drop (suc slot) ss)) (all_written ss)
  here = r.answer ∙ ap (λ (ts : List (List ℕ)). first_fault (take slot ss) (map as_line ts) (all_written ss)) (drop-cons ss slot [] h)

  pub judged_refused : (f : Fault) → number_of f ≡ number → judge_answer ss ≡ refused_at (number_of f) (slot + 1)
  judged_refused f e =
      here
      ∙ fault_here (take slot ss) serial true (map as_line (drop (suc slot) ss)) (all_written ss) f e
      ∙ ap (λ (n : ℕ). refused_at (number_of f) n) (omega (arith, before))

  pub judged_fits : 0 ≡ number → (slot < 257) × (length serial ≤ 20)
  judged_fits e = (omega (arith, before, fine_slot (take slot ss) serial true e), fine_length (take slot ss) serial true e)

  pub judged_more : 0 ≡ number → JudgedTo ss (slot + 1) (count + (length serial + 1))
  judged_more e =
      let fits = judged_fits e in
      record {
        most = omega arith;
        within = omega arith;
        small = omega arith;
        long = omega (arith, length_more ss slot h);
        answer =
            here
            ∙ fault_later (take slot ss) serial true (map as_line (drop (suc slot) ss)) (all_written ss) e
            ∙ sym (rw (add-one, take-suc ss slot [] h));
      }

pub judged_all : {ss : List (List ℕ)} {slot count : ℕ} → JudgedTo ss slot count → length ss ≤ slot → judge_answer ss ≡ done count
unfolding first_fault
judged_all {ss} {slot} {count} r h =
    r.answer
    ∙ ap (λ (ts : List (List ℕ)). first_fault (take slot ss) (map as_line ts) (all_written ss)) (drop_of_length-le ss h)
    ∙ ap done (ap (λ (ts : List (List ℕ)). length (roster_text ts)) (sym (take_all slot ss h)) ∙ sym r.long)
