-- The laws of a list with another in its middle: its length, and what stands before, in and after the new part.
-- Assumes nothing.
use mathlib.Core.Path.{◌≡◌, sym, ap, subst, ◌∙◌}
use mathlib.Core.List.{List, ◌++◌}
use Prim.Native.Nat.{ℕ, ◌+◌, ◌-◌, ◌≤◌, ◌<◌}
use native.Mathlib.Omega.{arith}
use lib.ListN.{length, get_or, take, drop, length-append, length-take, length-drop, get_or-append}
use lib.Seq.{length-take-le, get_or-append-add, get_or-take, get_or-drop}
use Rattle.base.specs.Table.{spliced}

module _ (l : List ℕ) (a : ℕ) (m : List ℕ) (fits : a + length m ≤ length l) where
  front : length (take a l) ≡ a
  front = length-take-le a l (omega arith)

  pub length_spliced : length (spliced l a m) ≡ length l
  length_spliced = simp (length-append, length-take, length-drop) (omega arith)

  pub spliced_in : (p : ℕ) → p < length m → get_or (spliced l a m) (a + p) 0 ≡ get_or m p 0
  spliced_in p h =
      ap (λ (n : ℕ). get_or (spliced l a m) (n + p) 0) (sym front)
      ∙ get_or-append-add (take a l) (m ++ drop (a + length m) l) p 0
      ∙ get_or-append m (drop (a + length m) l) 0 p h

  pub spliced_low : (p : ℕ) → p < a → get_or (spliced l a m) p 0 ≡ get_or l p 0
  spliced_low p h =
      get_or-append (take a l) (m ++ drop (a + length m) l) 0 p (subst (λ (n : ℕ). p < n) (sym front) h) ∙ get_or-take a l p 0 h

  pub spliced_high : (p : ℕ) → a + length m ≤ p → get_or (spliced l a m) p 0 ≡ get_or l p 0
  spliced_high p h =
      ap (λ (n : ℕ). get_or (spliced l a m) n 0) place
      ∙ get_or-append-add (take a l) (m ++ drop (a + length m) l) (length m + (p - (a + length m))) 0
      ∙ get_or-append-add m (drop (a + length m) l) (p - (a + length m)) 0
      ∙ get_or-drop (a + length m) l (p - (a + length m)) 0
      ∙ ap (λ (n : ℕ). get_or l n 0) (omega arith)
    where
      place : p ≡ length (take a l) + (length m + (p - (a + length m)))
      place = let f = front in omega arith
