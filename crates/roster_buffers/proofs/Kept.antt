-- The laws of what is kept of a text: a text that is short enough is kept whole, it does not matter in which pieces a text comes, and once the last
-- byte is there nothing more is kept. By induction on the bytes that are kept, then on those that come after.
-- Assumes nothing.
use mathlib.Core.Path.{◌≡◌, refl, sym, ap, ap₂, ◌∙◌}
use mathlib.Core.Logic.{⊎_elim}
use mathlib.Core.Bool.{Bool, true, false, not, false≢true}
use mathlib.Core.List.{List, [], ◌∷◌, ◌++◌, append-nil}
use Prim.Native.Nat.compare
use Prim.Native.Nat.{ℕ, zero, suc, ◌+◌, ◌≤◌, ◌<◌}
use native.Mathlib.Omega.{arith}
use native.Mathlib.Numerals.{add-one}
use borrow.Author.Tests.{lt-ltb, le-ltb, ne_eqb}
use lib.ListN.{length, get_or, take, drop, take-append-drop, length-append, length-take, set, drop_of_length-le}
use lib.Seq.{take_all, take_at, length-take-le, take-suc, take-suc-set, set-get_or}
use Rattle.base.specs.Choice.{choose}
use Rattle.base.proofs.Choice.{below_or_not}
use Rattle.lines.specs.Lines.{is_character}
use Rattle.roster_answer.specs.Answer.{Begins}
use Rattle.roster_buffers.specs.Kept.{kept_size, held_size, first_other, kept_of, kept, is_taken, Holds}

-- ---- the first byte that no serial has
other_once : (a b : List ℕ) → first_other (first_other a ++ b) ≡ first_other (a ++ b)
other_once [] b = refl
other_once (c ∷ a) b = go (other_once a b) (is_character c) refl
  where
    go : first_other (first_other a ++ b) ≡ first_other (a ++ b) → (t : Bool) → is_character c ≡ t
        → first_other (choose t (first_other a) (c ∷ []) ++ b) ≡ choose t (first_other (a ++ b)) (c ∷ [])
    go later true e = later
    go later false e = rw e

other_full : (a b : List ℕ) → length (first_other a) ≡ 1 → first_other (a ++ b) ≡ first_other a
other_full [] b h = absurd (omega arith)
other_full (c ∷ a) b h = go (other_full a b) (is_character c) h
  where
    go : (length (first_other a) ≡ 1 → first_other (a ++ b) ≡ first_other a) → (t : Bool) → length (choose t (first_other a) (c ∷ [])) ≡ 1
        → choose t (first_other (a ++ b)) (c ∷ []) ≡ choose t (first_other a) (c ∷ [])
    go later true h = later h
    go later false h = refl

pub other_twice : (a : List ℕ) → first_other (first_other a) ≡ first_other a
other_twice a = simp append-nil at (other_once a [])

-- ---- what is kept where n bytes are
keep_short : (n : ℕ) (t : List ℕ) → length t ≤ n → kept_of n t ≡ t
keep_short n t h = rw (drop_of_length-le t h, take_all n t h) (append-nil t)

keep_pieces : (n : ℕ) (a b : List ℕ) → kept_of n (kept_of n a ++ b) ≡ kept_of n (a ++ b)
keep_pieces zero a b = other_once a b
keep_pieces (suc n) [] b = refl
keep_pieces (suc n) (c ∷ a) b = ap (◌∷◌ c) (keep_pieces n a b)

keep_full : (n : ℕ) (a b : List ℕ) → length (kept_of n a) ≡ suc n → kept_of n (a ++ b) ≡ kept_of n a
keep_full zero a b h = other_full a b h
keep_full (suc n) [] b h = absurd (omega arith)
keep_full (suc n) (c ∷ a) b h = ap (◌∷◌ c) (keep_full n a b (omega arith))

-- ---- what the program keeps
pub kept_short : (t : List ℕ) → length t ≤ kept_size → kept t ≡ t
unfolding kept
kept_short t h = keep_short kept_size t h

pub kept_pieces : (a b : List ℕ) → kept (kept a ++ b) ≡ kept (a ++ b)
unfolding kept
kept_pieces a b = keep_pieces kept_size a b

pub kept_full : (a b : List ℕ) → length (kept a) ≡ held_size → kept (a ++ b) ≡ kept a
unfolding kept
kept_full a b h = keep_full kept_size a b h

-- ---- one byte more
other_more : (t : List ℕ) (c : ℕ) → first_other (t ++ (c ∷ [])) ≡ choose (is_taken 0 (length (first_other t)) c) (first_other t ++ (c ∷ [])) (first_other t)
other_more [] c = go (is_character c)
  where
    go : (b : Bool) → choose b [] (c ∷ []) ≡ choose (not b) (c ∷ []) []
    go true = refl
    go false = refl
other_more (d ∷ t) c = go (other_more t c) (is_character d)
  where
    go : first_other (t ++ (c ∷ [])) ≡ choose (is_taken 0 (length (first_other t)) c) (first_other t ++ (c ∷ [])) (first_other t) → (b : Bool)
        → choose b (first_other (t ++ (c ∷ []))) (d ∷ [])
        ≡ choose (is_taken 0 (length (choose b (first_other t) (d ∷ []))) c) (choose b (first_other t) (d ∷ []) ++ (c ∷ [])) (choose b (first_other t) (d ∷ []))
    go later true = later
    go later false = refl

taken_next : (n k c : ℕ) → is_taken (suc n) (suc k) c ≡ is_taken n k c
taken_next n k c = simp compare.suc-suc

keep_more : (n : ℕ) (t : List ℕ) (c : ℕ) → kept_of n (t ++ (c ∷ [])) ≡ choose (is_taken n (length (kept_of n t)) c) (kept_of n t ++ (c ∷ [])) (kept_of n t)
keep_more zero t c = other_more t c
keep_more (suc n) [] c = rw (lt-ltb 0 (suc n) (omega arith)) (ap (◌∷◌ c) (keep_short n [] (omega arith)))
keep_more (suc n) (d ∷ t) c =
    rw (taken_next n (length (kept_of n t)) c) (ap (◌∷◌ d) (keep_more n t c) ∙ go (is_taken n (length (kept_of n t)) c))
  where
    go : (b : Bool) → d ∷ choose b (kept_of n t ++ (c ∷ [])) (kept_of n t) ≡ choose b (d ∷ (kept_of n t ++ (c ∷ []))) (d ∷ kept_of n t)
    go true = refl
    go false = refl

kept_more : (t : List ℕ) (c : ℕ) → kept (t ++ (c ∷ [])) ≡ choose (is_taken kept_size (length (kept t)) c) (kept t ++ (c ∷ [])) (kept t)
unfolding kept
kept_more t c = keep_more kept_size t c

-- ---- what an array holds
module _ (held : List ℕ) (size : length held ≡ held_size) where
  pub holds_short : (n : ℕ) → n ≤ kept_size → Holds held n (take n held)
  holds_short n h =
      let is = kept_short (take n held) (omega (arith, length-take n held)) in
      record { count = sym (ap length is ∙ length-take-le n held (omega arith)); bytes = sym is }

  module _ {n : ℕ} {t : List ℕ} (c : ℕ) (h : Holds held n t) where
    more : {b : Bool} → is_taken kept_size n c ≡ b → kept (t ++ (c ∷ [])) ≡ choose b (take n held ++ (c ∷ [])) (take n held)
    more e = rw (h.bytes, ← e, h.count) (kept_more t c)

    pub holds_taken : is_taken kept_size n c ≡ true → n < held_size → Holds (set held n c) (n + 1) (t ++ (c ∷ []))
    holds_taken e room =
        record {
          count = rw (more e) (omega (arith, h.count, ap length h.bytes, length-append (take n held) (c ∷ [])));
          bytes = rw (add-one n) (take-suc-set held n c (omega arith) ∙ sym (more e));
        }

    pub holds_left : is_taken kept_size n c ≡ false → Holds held n (t ++ (c ∷ []))
    holds_left e = record { count = rw (more e, h.bytes) h.count; bytes = sym (more e) }

  -- all of the array: its last byte comes after the others
  module _ (n : ℕ) (h : kept_size < n) where
    all : take n held ≡ take kept_size held ++ (get_or held kept_size 0 ∷ [])
    all = take_all n held (omega arith) ∙ sym (take_all held_size held (omega arith)) ∙ take-suc held kept_size 0 (omega arith)

    pub holds_last : is_taken kept_size kept_size (get_or held kept_size 0) ≡ true → Holds held held_size (take n held)
    holds_last e = rw all (rw (set-get_or held kept_size 0) at (holds_taken (get_or held kept_size 0) (holds_short kept_size (omega arith)) e (omega arith)))

    pub holds_others : is_taken kept_size kept_size (get_or held kept_size 0) ≡ false → Holds held kept_size (take n held)
    holds_others e = rw all (holds_left (get_or held kept_size 0) (holds_short kept_size (omega arith)) e)

-- a filled array as a buffer that begins with what is kept, and back
pub holds_begins : {held before t : List ℕ} {n : ℕ} → Holds held n t → drop n held ≡ drop n before → Begins (kept t) before n held
holds_begins {held} {before} {n = n} h rest =
    record { count = h.count; output = sym (take-append-drop n held) ∙ ap₂ ◌++◌ h.bytes (rest ∙ ap (λ (k : ℕ). drop k before) h.count) }

pub begins_holds : {held before t : List ℕ} {n : ℕ} → Begins (kept t) before n held → Holds held n t
begins_holds {before = before} {t} {n} call =
    record { count = call.count; bytes = ap (take n) call.output ∙ take_at (kept t) (drop (length (kept t)) before) n (sym call.count) }

pub taken_room : (n c : ℕ) → is_taken kept_size n c ≡ true → n < held_size
taken_room n c e = ⊎_elim (λ h. h) (λ h. absurd (false≢true (sym (out h) ∙ e))) (below_or_not n held_size)
  where
    out : held_size ≤ n → is_taken kept_size n c ≡ false
    out h = rw (le-ltb n kept_size (omega arith), ne_eqb n kept_size (λ e. omega arith))
