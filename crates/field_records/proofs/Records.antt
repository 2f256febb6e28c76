-- Records that are answered in their own buffer: an answer never stands past the record that it answers, so what is read next is as it was.
-- Assumes nothing.
use mathlib.Core.Path.{◌≡◌, refl, sym, ap, ap₂, subst, ◌∙◌}
use mathlib.Core.Logic.{◌≢◌}
use mathlib.Core.List.{List, ◌++◌}
use Prim.Native.Nat.{ℕ, zero, suc, ◌+◌, ◌*◌, ◌/◌, ◌%◌, ◌≤◌, ◌<◌}
use native.Mathlib.Nat.{suc-ne-zero}
use native.Mathlib.Omega.{arith}
use borrow.Author.Tests.{lt-ltb, le-ltb}
use lib.ListN.{length, get_or, take, drop}
use Rattle.base.proofs.Fill.{Filled, fill_part, fill_rest}
use Rattle.base.proofs.Table.{is_tabulate}
use Rattle.std.specs.Prelude.{Option, Some, None}
use Rattle.field_records.specs.Records.{bytes_of, answer, big_endian, number_at, answer_at, records, placed, answered}

-- no value is written as none is
pub told_apart : (v : ℕ) → bytes_of (Some v) ≢ bytes_of None
told_apart v e = suc-ne-zero 0 (ap (λ (l : List ℕ). get_or l 0 0) e)

number_same : (k : ℕ) {a b : ℕ → ℕ} → ((j : ℕ) → a j ≡ b j) → big_endian k a ≡ big_endian k b
unfolding big_endian
number_same zero same = refl
number_same (suc k) same = ap₂ (λ (x y : ℕ). x * 256 + y) (number_same k same) (same k)

two : (r : Option ℕ) → length (bytes_of r) ≡ 2
two (Some v) = refl
two None = refl

-- the first 2k bytes of t are answers to records of s
module _ (s t : List ℕ) (k : ℕ) (fill : Filled (placed s) (length s) s t (2 * k)) where
  answer_same : (at : ℕ) → 2 * k ≤ at → answer_at t at ≡ answer_at s at
  answer_same at h =
      ap₂ (λ (o a : ℕ). answer o a (number_at 8 t (at + 2))) (fill.old at h) (fill.old (at + 1) (omega arith))
      ∙ ap (answer (get_or s at 0) (get_or s (at + 1) 0)) (number_same 8 (λ j. fill.old (at + 2 + j) (omega arith)))

  -- byte i of the answer to record k
  byte_placed : {place i : ℕ} → place < 2 * records s → place / 2 ≡ k → place % 2 ≡ i → (old : ℕ)
      → get_or (bytes_of (answer_at t (10 * k))) i 0 ≡ placed s place old
  byte_placed {place} {i} below is which old =
      ap (λ (r : Option ℕ). get_or (bytes_of r) i 0) (answer_same (10 * k) (omega arith))
      ∙ ap₂ (λ (j i : ℕ). get_or (bytes_of (answer_at s (10 * j))) i 0) (sym is) (sym which)
      ∙ sym (simp (lt-ltb place (2 * records s) below))

  pub answered_more : {m rest : List ℕ} {r : Option ℕ} → k < records s → r ≡ answer_at t (10 * k) → m ≡ bytes_of r → rest ≡ drop (2 * k + 2) t
      → Filled (placed s) (length s) s (take (2 * k) t ++ (m ++ rest)) (2 * (k + 1))
  answered_more {m} {rest} {r} h e is after =
      subst (λ (n : ℕ). Filled (placed s) (length s) s (take (2 * k) t ++ (m ++ rest)) n) (omega arith)
      (fill_part 2 fill (omega arith)
      (is
      ∙ ap bytes_of e
      ∙ is_tabulate 2 (λ j. placed s (2 * k + j) (get_or s (2 * k + j) 0)) (bytes_of (answer_at t (10 * k))) (two (answer_at t (10 * k)))
      (λ j p. byte_placed (omega arith) (omega arith) (omega arith) _)) after)

  pub answered_all : k ≡ records s → t ≡ answered s
  unfolding answered
  answered_all h = fill_rest fill (λ j p q. simp (le-ltb j (2 * records s) (omega arith)))
