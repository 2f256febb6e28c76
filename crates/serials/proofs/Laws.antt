-- The laws of lent serials: how many there are, which bytes each has, and that the first ends lend the first serials.
-- Assumes nothing.
use mathlib.Core.Path.{◌≡◌, refl, sym, ap, ◌∙◌}
use mathlib.Core.Logic.{⊎_elim}
use mathlib.Core.List.{List, [], ◌∷◌, ◌++◌}
use Prim.Native.Nat.{ℕ, zero, suc, ◌-◌, ◌≤◌, ◌<◌, min}
use native.Mathlib.Nat.{not-suc-le-zero, le_of_suc-le-suc}
use native.Mathlib.Omega.{arith}
use lib.ListN.{length, get_or, take, drop, length-drop, drop_of_length-le}
use lib.Seq.{take_all, take-nil}
use Rattle.base.proofs.Choice.{below_or_not}
use Rattle.serials.specs.Serials.{serials_from}

module _ (chars : List ℕ) where
  -- nothing stands past the bytes
  pub part_past : (start end : ℕ) → length chars ≤ start → take (end - start) (drop start chars) ≡ []
  part_past start end h = rw (drop_of_length-le chars h) (take-nil (end - start))

  -- places past the bytes may be brought back to them
  pub part_clamped : (start end : ℕ) (from to : ℕ) → to ≡ min end (length chars) → from ≡ min start to → take (to - from) (drop from chars) ≡ take (end - start) (drop start chars)
  part_clamped start end from to e f =
      ⊎_elim inside (λ h. let none : to - from ≡ 0 = omega arith in ap (λ (n : ℕ). take n (drop from chars)) none ∙ sym (outside h)) (below_or_not start to)
    where
      outside : to ≤ start → take (end - start) (drop start chars) ≡ []
      outside h =
          ⊎_elim (λ l. part_past start end (omega arith)) (λ l. let none : end - start ≡ 0 = omega arith in ap (λ (n : ℕ). take n (drop start chars)) none) (below_or_not (length chars) end)

      inside : start < to → take (to - from) (drop from chars) ≡ take (end - start) (drop start chars)
      inside h =
          let same : from ≡ start = omega arith in
          ap (λ (n : ℕ). take (to - n) (drop n chars)) same
          ∙ ⊎_elim
          (λ l.
          take_all (to - start) (drop start chars) (omega (arith, length-drop start chars))
          ∙ sym (take_all (end - start) (drop start chars) (omega (arith, length-drop start chars))))
          (λ l. let all : to ≡ end = omega arith in ap (λ (n : ℕ). take (n - start) (drop start chars)) all) (below_or_not (length chars) end)

  -- an end past the bytes may be brought back to them
  pub after_clamped : (before end : ℕ) → take (end - suc (min before (length chars))) (drop (suc (min before (length chars))) chars) ≡ take (end - suc before) (drop (suc before) chars)
  after_clamped before end =
      ⊎_elim
      (λ l. part_past _ end (omega arith) ∙ sym (part_past _ end (omega arith)))
      (λ l. let kept : min before (length chars) ≡ before = omega arith in ap (λ (n : ℕ). take (end - suc n) (drop (suc n) chars)) kept)
      (below_or_not (length chars) before)

  pub length_serials : (start : ℕ) (ends : List ℕ) → length (serials_from start chars ends) ≡ length ends
  unfolding serials_from
  length_serials start [] = refl
  length_serials start (e ∷ ends) = ap suc (length_serials (suc e) ends)

  pub serials_take : (start : ℕ) (ends : List ℕ) (k : ℕ) → serials_from start chars (take k ends) ≡ take k (serials_from start chars ends)
  unfolding serials_from
  serials_take start ends zero = refl
  serials_take start [] (suc k) = refl
  serials_take start (e ∷ ends) (suc k) = ap (◌∷◌ (take (e - start) (drop start chars))) (serials_take (suc e) ends k)

  -- ---- the serial of a slot: the first, and each later one
  pub first_serial : (start : ℕ) (ends : List ℕ) → 0 < length ends → get_or (serials_from start chars ends) 0 [] ≡ take (get_or ends 0 0 - start) (drop start chars)
  unfolding serials_from
  first_serial start [] h = absurd (not-suc-le-zero h)
  first_serial start (e ∷ ends) h = refl

  later : (start : ℕ) (ends : List ℕ) (k : ℕ) → suc k < length ends
      → get_or (serials_from start chars ends) (suc k) [] ≡ take (get_or ends (suc k) 0 - suc (get_or ends k 0)) (drop (suc (get_or ends k 0)) chars)
  unfolding serials_from
  later start [] k h = absurd (not-suc-le-zero h)
  later start (e ∷ ends) zero h = first_serial (suc e) ends (le_of_suc-le-suc h)
  later start (e ∷ ends) (suc k) h = later (suc e) ends k (le_of_suc-le-suc h)

  pub later_serial : (start : ℕ) (ends : List ℕ) {slot before : ℕ} → slot ≡ suc before → slot < length ends
      → get_or (serials_from start chars ends) slot [] ≡ take (get_or ends slot 0 - suc (get_or ends before 0)) (drop (suc (get_or ends before 0)) chars)
  later_serial start ends {slot} {before} e h = rw e (later start ends before (omega arith))

  -- one end more lends one serial more, which begins after the end before it
  pub serials_more : (start : ℕ) (ends : List ℕ) (before end : ℕ)
      → serials_from start chars ((ends ++ (before ∷ [])) ++ (end ∷ [])) ≡ serials_from start chars (ends ++ (before ∷ [])) ++ (take (end - suc before) (drop (suc before) chars) ∷ [])
  unfolding serials_from
  serials_more start [] before end = refl
  serials_more start (e ∷ ends) before end = ap (◌∷◌ (take (e - start) (drop start chars))) (serials_more (suc e) ends before end)
