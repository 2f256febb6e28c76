-- Texts, lines and serials: the ends of a text's lines lend its lines' serials; the lines of a written text are its serials, each ended; and a text whose
-- lines are all ended is the one that its serials write. By induction over the text or the serials.
-- Assumes nothing.
use mathlib.Core.Path.{◌≡◌, refl, sym, ap, ap₂, ◌∙◌}
use mathlib.Core.Bool.{Bool, true, false, false≢true}
use mathlib.Core.List.{List, [], ◌∷◌, map}
use Prim.Native.Nat.{ℕ, suc, ◌+◌, ◌<◌, suc-le-suc}
use native.Mathlib.Nat.{zero-lt-suc, zero-add, suc-add, suc-sub-suc, sub-zero}
use borrow.Author.Tests.{eqb-true, ne_eqb}
use lib.Dec.{eqb}
use lib.ListN.{length, get_or}
use Rattle.base.specs.Choice.{choose}
use Rattle.serials.specs.Serials.{serials, serials_from}
use Rattle.lines.specs.Lines.{Line, line_feed, begun, lines, is_character}
use Rattle.lines.proofs.Lines.{Unfed, line_ends_lem}
use Rattle.lines.specs.FirstFault.{serials_of, no_line}
use Rattle.roster.specs.Text.{roster_text, ends_from, line_ends}
use Rattle.roster.specs.Calls.{as_line}
use Rattle.roster.specs.Roster.{Serial}

-- the lines of a text with one byte more, which is a line feed or not
abbrev front : Bool → ℕ → List Line → List Line
front b c ls = choose b (as_line [] ∷ ls) (begun c ls)

-- ---- the ends of a text's lines
-- one byte more in front of the text
behind : (c : ℕ) (t : List ℕ) (start : ℕ) (ls : List Line)
    → serials_from (suc start) (c ∷ t) (ends_from (suc start) ls) ≡ serials_from start t (ends_from start ls)
unfolding serials_from ends_from
behind c t start [] = refl
behind c t start (l ∷ ls) =
    rw (suc-add start (length l.serial), suc-sub-suc (start + length l.serial) start, behind c t (suc (start + length l.serial)) ls)

begun_serials : (c : ℕ) (t : List ℕ) (ls : List Line) → serials t (ends_from 0 ls) ≡ serials_of ls
    → serials (c ∷ t) (ends_from 0 (begun c ls)) ≡ serials_of (begun c ls)
unfolding serials_from ends_from
begun_serials c t [] e = refl
begun_serials c t (l ∷ ls) e = simp (zero-add, sub-zero, behind c t (suc (length l.serial)) ls) (cc (simp (zero-add, sub-zero) at e))

pub serials_of_lines : (text : List ℕ) → serials text (line_ends text) ≡ serials_of (lines text)
unfolding serials_from ends_from lines
serials_of_lines [] = refl
serials_of_lines (c ∷ t) = go (eqb c line_feed) (serials_of_lines t)
  where
    go : (b : Bool) → serials t (line_ends t) ≡ serials_of (lines t) → serials (c ∷ t) (ends_from 0 (front b c (lines t))) ≡ serials_of (front b c (lines t))
    go true e = ap (◌∷◌ []) (behind c t 0 (lines t) ∙ e)
    go false e = begun_serials c t (lines t) e

-- ---- the lines of a written text
no_line_feed : (c : ℕ) → is_character c ≡ true → eqb c line_feed ≡ false
no_line_feed c e = ne_eqb c line_feed (λ is. false≢true (ap is_character (sym is) ∙ e))

unfed : (s : List ℕ) → ((i : ℕ) → i < length s → is_character (get_or s i 0) ≡ true) → Unfed s
unfed [] good = tt
unfed (c ∷ s) good = (no_line_feed c (good 0 (zero-lt-suc (length s))), unfed s (λ i h. good (suc i) (suc-le-suc h)))

pub lines_of_text : (ss : List (List ℕ)) → ((k : ℕ) → k < length ss → Serial (get_or ss k [])) → lines (roster_text ss) ≡ map as_line ss
unfolding roster_text lines
lines_of_text [] good = refl
lines_of_text (s ∷ ss) good =
    line_ends_lem s (roster_text ss) (unfed s (good 0 (zero-lt-suc (length ss))).characters)
    ∙ ap (◌∷◌ (as_line s)) (lines_of_text ss (λ k h. good (suc k) (suc-le-suc h)))

-- ---- a text whose lines are all ended
abbrev pub Ended : List Line → Type 0
Ended [] = Unit {0}
Ended (l ∷ ls) = (l.ended ≡ true) × Ended ls

pub all_ended : (ls : List Line) → ((k : ℕ) → k < length ls → (get_or ls k no_line).ended ≡ true) → Ended ls
all_ended [] es = tt
all_ended (l ∷ ls) es = (es 0 (zero-lt-suc (length ls)), all_ended ls (λ k h. es (suc k) (suc-le-suc h)))

begun_text : (c : ℕ) (ls : List Line) → Ended (begun c ls) → Ended ls × (roster_text (serials_of (begun c ls)) ≡ c ∷ roster_text (serials_of ls))
unfolding roster_text
begun_text c [] ended = absurd (false≢true ended.0)
begun_text c (l ∷ ls) ended = (ended, refl)

pub text_of_lines : (text : List ℕ) → Ended (lines text) → roster_text (serials_of (lines text)) ≡ text
unfolding lines roster_text
text_of_lines [] ended = refl
text_of_lines (c ∷ t) ended = go (eqb c line_feed) refl ended (text_of_lines t)
  where
    go : (b : Bool) → eqb c line_feed ≡ b → Ended (front b c (lines t)) → (Ended (lines t) → roster_text (serials_of (lines t)) ≡ t)
        → roster_text (serials_of (front b c (lines t))) ≡ c ∷ t
    go true is ended rest = ap₂ ◌∷◌ (sym (eqb-true c line_feed is)) (rest ended.1)
    go false is ended rest = let b = begun_text c (lines t) ended in b.1 ∙ ap (◌∷◌ c) (rest b.0)
