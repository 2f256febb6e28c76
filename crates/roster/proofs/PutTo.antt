-- An output that begins with the text of the serials up to a slot. It holds at the start, with each serial and line feed that are put behind, and at the end.
-- Assumes nothing.
use mathlib.Core.Path.{◌≡◌, refl, sym, ap, ap₂, ◌∙◌}
use mathlib.Core.List.{List, [], ◌++◌}
use Prim.Native.Nat.{ℕ, ◌+◌, ◌-◌, ◌≤◌, ◌<◌}
use native.Mathlib.Omega.{arith}
use borrow.Rule.Slice.PartMut.{put_mid}
use lib.ListN.{length, get_or, take, drop, set, length-append, length-take, length-drop}
use lib.Seq.{take_all, take_at, drop_at}
use Rattle.base.proofs.Tails.{put_tail}
use Rattle.lines.specs.Lines.{line_feed}
use Rattle.roster.specs.Text.{roster_text}
use Rattle.roster.specs.Calls.{begun_with}
use Rattle.roster.proofs.Text.{text_more, length_more, text_part, put_line}

pub record PutTo (ss : List (List ℕ)) (before out : List ℕ) (at slot : ℕ) : Type 0 where
  pub place : at ≡ length (roster_text (take slot ss))
  pub begins : out ≡ begun_with (roster_text (take slot ss)) before

pub put_none : (ss : List (List ℕ)) (before : List ℕ) → PutTo ss before before 0 0
unfolding roster_text
put_none ss before = record { place = refl; begins = refl }

module _ (ss : List (List ℕ)) (before out : List ℕ) (at slot : ℕ) (r : PutTo ss before out at slot) (fits : length (roster_text ss) ≤ length before) where
  abbrev text : List ℕ
  text = roster_text (take slot ss)

  pub length_put : length out ≡ length before
  length_put = omega (arith, text_part ss slot, length-drop (length text) before, simp length-append at (ap length r.begins))

  module _ (h : slot < length ss) where
    abbrev serial : List ℕ
    serial = get_or ss slot []

    pub put_room : at + length serial < length before
    put_room = omega (arith, text_part ss (slot + 1), length_more ss slot h, r.place)

    module _ {m : List ℕ} {n : ℕ} (is : m ≡ serial ++ drop (length serial) (drop at out)) (size : n ≡ length serial) where
      pub feed_room : at + n < length (put_mid at (length out - at) out m)
      feed_room =
          let long = length_put in
          let low = put_room in
          rw (put_tail at out m, is) (simp (length-append, length-take, length-drop) (omega arith))

      pub put_more : PutTo ss before (set (put_mid at (length out - at) out m) (at + n) line_feed) (at + n + 1) (slot + 1)
      put_more =
          let front : take at out ≡ text = ap (take at) r.begins ∙ take_at text (drop (length text) before) at (sym r.place) in
          let rest : drop at out ≡ drop (length text) before = ap (drop at) r.begins ∙ drop_at text (drop (length text) before) at (sym r.place) in
          let end : at + n ≡ length text + length serial = omega (arith, r.place) in
          let low = put_room in
          record {
            place = omega (arith, length_more ss slot h, r.place);
            begins =
                ap₂ (λ (l : List ℕ) (k : ℕ). set l k line_feed) (put_tail at out m ∙ ap₂ ◌++◌ front (is ∙ ap (λ (l : List ℕ). serial ++ drop (length serial) l) rest)) end
                ∙ put_line text serial before (omega arith)
                ∙ ap (λ (l : List ℕ). begun_with l before) (sym (text_more ss slot h));
          }

pub put_all : (ss : List (List ℕ)) (before out : List ℕ) (at slot : ℕ) → PutTo ss before out at slot → length ss ≤ slot → out ≡ begun_with (roster_text ss) before
put_all ss before out at slot r h = r.begins ∙ ap (λ (ts : List (List ℕ)). begun_with (roster_text ts) before) (take_all slot ss h)
