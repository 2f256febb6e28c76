-- The laws of a roster's text and of the ends of lines: their lengths, and one serial or one line more.
-- Assumes nothing.
use mathlib.Core.Path.{◌≡◌, refl, sym, ap, ◌∙◌}
use mathlib.Core.List.{List, [], ◌∷◌, ◌++◌, append_assoc}
use Prim.Native.Nat.{ℕ, suc, ◌+◌, ◌≤◌, ◌<◌}
use native.Mathlib.Numerals.{add-one}
use native.Mathlib.Omega.{arith}
use lib.ListN.{length, get_or, take, drop, set, length-append, take-append-drop}
use lib.Seq.{take-suc, drop-drop, drop-cons, set_at}
use Rattle.lines.specs.Lines.{Line, line_feed}
use Rattle.roster.specs.Text.{roster_text, ends_from}
use Rattle.roster.specs.Calls.{begun_with}

pub text_append : (ss ts : List (List ℕ)) → roster_text (ss ++ ts) ≡ roster_text ss ++ roster_text ts
unfolding roster_text
text_append [] ts = refl
text_append (s ∷ ss) ts = rw (text_append ss ts) (sym (append_assoc s (line_feed ∷ roster_text ss) (roster_text ts)))

module _ (ss : List (List ℕ)) (slot : ℕ) (h : slot < length ss) where
  -- the text of one serial more
  pub text_more : roster_text (take (slot + 1) ss) ≡ roster_text (take slot ss) ++ (get_or ss slot [] ++ (line_feed ∷ []))
  unfolding roster_text
  text_more = rw (add-one, take-suc ss slot [] h) (text_append (take slot ss) (get_or ss slot [] ∷ []))

  pub length_more : length (roster_text (take (slot + 1) ss)) ≡ length (roster_text (take slot ss)) + (length (get_or ss slot []) + 1)
  length_more = ap length text_more ∙ simp length-append

-- the text of the first serials begins that of all
pub text_part : (ss : List (List ℕ)) (slot : ℕ) → length (roster_text (take slot ss)) ≤ length (roster_text ss)
text_part ss slot =
    omega (arith, simp length-append at (ap length (ap roster_text (sym (take-append-drop slot ss)) ∙ text_append (take slot ss) (drop slot ss))))

-- a line put behind a text that begins a buffer
pub put_line : (new s old : List ℕ) → length new + length s < length old
    → set (new ++ (s ++ drop (length s) (drop (length new) old))) (length new + length s) line_feed ≡ begun_with (new ++ (s ++ (line_feed ∷ []))) old
put_line new s old h =
    let n = length new + length s in
    let size : length (new ++ (s ++ (line_feed ∷ []))) ≡ suc n = simp length-append (omega arith) in
    let split : new ++ (s ++ drop (length s) (drop (length new) old)) ≡ (new ++ s) ++ (get_or old n 0 ∷ drop (suc n) old) =
    rw (drop-drop (length s) (length new) old, drop-cons old n 0 h) (sym (append_assoc new s (get_or old n 0 ∷ drop (suc n) old)))
    in
    ap (λ (l : List ℕ). set l n line_feed) split
    ∙ set_at (new ++ s) (get_or old n 0) (drop (suc n) old) line_feed n (length-append new s)
    ∙ rw size (simp append_assoc)

pub length_ends : (start : ℕ) (ls : List Line) → length (ends_from start ls) ≡ length ls
unfolding ends_from
length_ends start [] = refl
length_ends start (l ∷ ls) = ap suc (length_ends (suc (start + length l.serial)) ls)
