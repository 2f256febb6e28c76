-- What is kept of a text is answered as the text is. A line that is accepted takes at most 21 bytes, and 257 lines are, so that a text of more than
-- 5,418 bytes is refused; its faulty line either ends within them or is too long, and then its first byte that no serial has tells 30 from 31. By
-- induction on the text.
-- Assumes nothing.
use mathlib.Core.Path.{◌≡◌, refl, sym, ap, ◌∙◌}
use mathlib.Core.Logic.{◌≢◌, ⊎_elim}
use mathlib.Core.Bool.{Bool, true, false, not}
use mathlib.Core.List.{List, [], ◌∷◌, ◌++◌, append-nil}
use Prim.Native.Nat.{ℕ, zero, suc, ◌+◌, ◌*◌, ◌≤◌, ◌<◌}
use native.Mathlib.Nat.{not-suc-le-zero}
use native.Mathlib.Omega.{arith}
use borrow.Author.Tests.{lt-ltb, eqb-true}
use lib.Dec.{eqb}
use lib.ListN.{length, length-append}
use lib.Seq.{append_snoc}
use Rattle.base.specs.Choice.{choose, either}
use Rattle.base.specs.Refusal.{Answer}
use Rattle.base.proofs.Choice.{either_comm, below_or_not}
use Rattle.lines.specs.Lines.{Line, lines, is_character, has_bad}
use Rattle.lines.specs.Faults.{line_number, unless_faulty, first_fault}
use Rattle.lines.proofs.Lines.{Unfed, unfed_more, line_ends_lem, line_stays}
use Rattle.lines.proofs.Faults.{fine_length, fine_slot}
use Rattle.roster.specs.Calls.{read_answer}
use Rattle.roster_answer.specs.Answer.{answer_text}
use Rattle.roster_buffers.specs.Kept.{kept_size, first_other, kept_of, kept}
use Rattle.roster_answer.proofs.Told.{told_refused}
use Rattle.roster_buffers.proofs.Kept.{kept_short, other_twice}

-- ---- a line of more than 20 bytes
either_swap : (a b c : Bool) → either a (either b c) ≡ either b (either a c)
either_swap true true c = refl
either_swap true false c = refl
either_swap false b c = refl

bad_more : (s : List ℕ) (c : ℕ) → has_bad (s ++ (c ∷ [])) ≡ either (not (is_character c)) (has_bad s)
bad_more [] c = refl
bad_more (d ∷ s) c = ap (either (not (is_character d))) (bad_more s c) ∙ either_swap (not (is_character d)) (not (is_character c)) (has_bad s)

-- the first byte that no serial has is another than the line's end
abbrev spoilt : List ℕ → Bool
spoilt [] = false
spoilt (c ∷ t) = not (eqb c 10)

spoilt_more : (s : List ℕ) (c : ℕ) (t : List ℕ) → eqb c 10 ≡ false
    → either (spoilt (first_other t)) (has_bad (s ++ (c ∷ []))) ≡ either (spoilt (first_other (c ∷ t))) (has_bad s)
spoilt_more s c t e = rw (bad_more s c) (go (is_character c))
  where
    go : (b : Bool) → either (spoilt (first_other t)) (either (not b) (has_bad s)) ≡ either (spoilt (choose b (first_other t) (c ∷ []))) (has_bad s)
    go true = refl
    go false = rw e (either_comm (spoilt (first_other t)) true)

abbrev long : List (List ℕ) → Bool → Answer
long before bad = record { number = choose bad 30 31; values = suc (length before) ∷ [] }

module _ (before : List (List ℕ)) (fine : Answer) where
  long_line : (s : List ℕ) (ended : Bool) (ls : List Line) → 20 < length s
      → first_fault before (record { serial = s; ended = ended } ∷ ls) fine ≡ long before (has_bad s)
  unfolding first_fault line_number
  long_line s ended ls h = rw (lt-ltb 20 (length s) h, either_comm (eqb (length s) 0) true) (go (has_bad s))
    where
      go : (b : Bool) → unless_faulty (choose b 30 31) (suc (length before)) (first_fault (before ++ (s ∷ [])) ls fine) ≡ long before b
      go true = refl
      go false = refl

  abbrev Over : List ℕ → List ℕ → Type 0
  Over s t = first_fault before (lines (s ++ t)) fine ≡ long before (either (spoilt (first_other t)) (has_bad s))

  overlong : (s t : List ℕ) → Unfed s → 20 < length s → Over s t
  overlong [] [] u h = absurd (not-suc-le-zero h)
  overlong (c ∷ s) [] u h = rw (append-nil (c ∷ s), line_stays c s u) (long_line (c ∷ s) false [] h)
  overlong s (c ∷ t) u h = go (overlong (s ++ (c ∷ [])) t) (eqb c 10) refl
    where
      go : (Unfed (s ++ (c ∷ [])) → 20 < length (s ++ (c ∷ [])) → Over (s ++ (c ∷ [])) t) → (b : Bool) → eqb c 10 ≡ b → Over s (c ∷ t)
      go later true e = rw (eqb-true c 10 e, line_ends_lem s t u) (long_line s true (lines t) h)
      go later false e =
          rw (← append_snoc s c t, ← spoilt_more s c t e) (later (unfed_more s c u e) (omega (arith, length-append s (c ∷ []))))

-- ---- two refusals that are the same
record Refused (a b : Answer) : Type 0 where
  same : a ≡ b
  number : b.number ≢ 0

refused_next : (k line : ℕ) {a b : Answer} → (k ≡ 0 → Refused a b) → Refused (unless_faulty k line a) (unless_faulty k line b)
refused_next zero line next = next refl
refused_next (suc k) line next = record { same = refl; number = λ e. omega arith }

line_next : (before : List (List ℕ)) (s : List ℕ) (ls ms : List Line) (f g : Answer)
    → (line_number before s true ≡ 0 → Refused (first_fault (before ++ (s ∷ [])) ls f) (first_fault (before ++ (s ∷ [])) ms g))
    → Refused (first_fault before (record { serial = s; ended = true } ∷ ls) f) (first_fault before (record { serial = s; ended = true } ∷ ms) g)
unfolding first_fault
line_next before s ls ms f g next = refused_next (line_number before s true) (suc (length before)) next

long_refused : (before : List (List ℕ)) (bad : Bool) → (long before bad).number ≢ 0
long_refused before true = λ e. omega arith
long_refused before false = λ e. omega arith

-- s begins the line after those before, t is what comes then, and n bytes of it are kept: with s enough for what is left of 258 lines
record Enough (before : List (List ℕ)) (s t : List ℕ) (n : ℕ) : Type 0 where
  unfed : Unfed s
  few : length before ≤ 257
  enough : 5418 ≤ 21 * length before + (length s + n)
  past : n < length t

module _ (f g : Answer) where
  abbrev SameRefusal : List (List ℕ) → List ℕ → List ℕ → ℕ → Type 0
  SameRefusal before s t n = Refused (first_fault before (lines (s ++ kept_of n t)) f) (first_fault before (lines (s ++ t)) g)

  kept_refused : (before : List (List ℕ)) (s t : List ℕ) (n : ℕ) → Enough before s t n → SameRefusal before s t n
  kept_refused before s [] n h = absurd (not-suc-le-zero h.past)
  kept_refused before s (c ∷ t) zero h =
      let over : 20 < length s = omega arith in
      let is = overlong before g s (c ∷ t) h.unfed over in
      record {
        same = overlong before f s (first_other (c ∷ t)) h.unfed over ∙ rw (other_twice (c ∷ t)) (sym is);
        number = rw is (long_refused before (either (spoilt (first_other (c ∷ t))) (has_bad s)));
      }
  kept_refused before s (c ∷ t) (suc n) h =
      go (kept_refused (before ++ (s ∷ [])) [] t n) (kept_refused before (s ++ (c ∷ [])) t n) (eqb c 10) refl
    where
      go : (Enough (before ++ (s ∷ [])) [] t n → SameRefusal (before ++ (s ∷ [])) [] t n)
          → (Enough before (s ++ (c ∷ [])) t n → SameRefusal before (s ++ (c ∷ [])) t n)
          → (b : Bool) → eqb c 10 ≡ b → SameRefusal before s (c ∷ t) (suc n)
      go next more true e =
          rw (eqb-true c 10 e, line_ends_lem s (kept_of n t) h.unfed, line_ends_lem s t h.unfed)
          (line_next before s (lines (kept_of n t)) (lines t) f g
          (λ k.
          let short = fine_length before s true (sym k) in
          let slot = fine_slot before s true (sym k) in
          let longer = length-append before (s ∷ []) in
          next record { unfed = tt; few = omega arith; enough = omega arith; past = omega arith }))
      go next more false e =
          let longer = length-append s (c ∷ []) in
          rw (← append_snoc s c t, ← append_snoc s c (kept_of n t))
          (more record { unfed = unfed_more s c h.unfed e; few = h.few; enough = omega arith; past = omega arith })

-- ---- what is kept is answered as the whole text is
refused_answer : (t u asked : List ℕ) → Refused (read_answer t) (read_answer u) → answer_text t asked ≡ answer_text u asked
unfolding answer_text
refused_answer t u asked r =
    let n = (read_answer u).number in
    rw r.same (told_refused n (read_answer u).values _ r.number ∙ sym (told_refused n (read_answer u).values _ r.number))

kept_long : (t : List ℕ) → kept_size < length t → Refused (read_answer (kept t)) (read_answer t)
unfolding read_answer kept
kept_long t h = kept_refused _ _ [] [] t kept_size record { unfed = tt; few = omega arith; enough = omega arith; past = h }

pub kept_answer : (t asked : List ℕ) → answer_text (kept t) asked ≡ answer_text t asked
kept_answer t asked =
    ⊎_elim (λ h. refused_answer (kept t) t asked (kept_long t h)) (λ h. ap (λ (l : List ℕ). answer_text l asked) (kept_short t h))
    (below_or_not kept_size (length t))
