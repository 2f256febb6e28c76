-- The answers to records one after the other: each has its place, and one more is put behind those that stand.
-- Assumes nothing.
use mathlib.Core.Path.{◌≡◌, refl, sym, ap, ap₂, ◌∙◌}
use mathlib.Core.List.{List, ◌++◌, append_assoc}
use Prim.Native.Nat.{ℕ, zero, suc, ◌+◌, ◌*◌}
use native.Mathlib.Numerals.{add-one}
use native.Mathlib.Omega.{arith}
use lib.ListN.{length, get_or, drop, length-append}
use lib.Seq.{take_at, drop-append-add, drop-drop}
use Rattle.base.specs.Table.{spliced}
use Rattle.bitmatrix.specs.Judge.{judged}
use Rattle.judge_code.specs.Code.{code_at}
use Rattle.judge_answer.proofs.Lengths.{length_answer}
use Rattle.judge_records.specs.Records.{answer_at, answers}

length_answers : (k : ℕ) (codes : List ℕ) → length (answers k codes) ≡ 7 * k
unfolding answers
length_answers zero codes = refl
length_answers (suc k) codes =
    length-append (answers k codes) (answer_at codes (65 * k)) ∙ omega (arith, length_answers k codes, length_answer (judged (code_at codes (65 * k + 1)) (get_or codes (65 * k) 0)))

pub answers_more : (codes d t : List ℕ) (k : ℕ) {v : List ℕ} → t ≡ answers k codes ++ drop (7 * k) d → v ≡ answer_at codes (65 * k)
    → spliced t (7 * k) v ≡ answers (k + 1) codes ++ drop (7 * (k + 1)) d
unfolding answers
answers_more codes d t k {v} is e =
    ap (λ (l : List ℕ). spliced l (7 * k) v) is
    ∙ ap₂ (λ (l m : List ℕ). l ++ (v ++ m)) (take_at (answers k codes) (drop (7 * k) d) (7 * k) (length_answers k codes)) rest
    ∙ ap (λ (l : List ℕ). answers k codes ++ (l ++ drop (7 * k + 7) d)) e
    ∙ sym
    (ap₂ (λ (j n : ℕ). answers j codes ++ drop n d) (add-one k) seven
    ∙ append_assoc (answers k codes) (answer_at codes (65 * k)) (drop (7 * k + 7) d))
  where
    seven : 7 * (k + 1) ≡ 7 * k + 7
    seven = omega arith

    rest : drop (7 * k + length v) (answers k codes ++ drop (7 * k) d) ≡ drop (7 * k + 7) d
    rest =
        ap (λ (n : ℕ). drop (n + length v) (answers k codes ++ drop (7 * k) d)) (sym (length_answers k codes))
        ∙ drop-append-add (answers k codes) (drop (7 * k) d) (length v)
        ∙ drop-drop (length v) (7 * k) d
        ∙ ap (λ (n : ℕ). drop (7 * k + n) d) (ap length e ∙ length_answer (judged (code_at codes (65 * k + 1)) (get_or codes (65 * k) 0)))
