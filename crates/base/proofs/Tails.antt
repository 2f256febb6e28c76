-- The laws of a part of a slice: its length and its places, the part from a place to the end, put back, and a copy that fills its room.
-- Assumes nothing.
use mathlib.Core.Path.{◌≡◌, ap, ap₂, ◌∙◌}
use mathlib.Core.List.{List, ◌++◌, append-nil}
use Prim.Native.Nat.{ℕ, ◌+◌, ◌-◌, ◌≤◌, ◌<◌}
use native.Mathlib.Omega.{arith}
use borrow.Rule.Slice.PartMut.{put_mid}
use lib.ListN.{length, get_or, take, drop, length-take, length-drop, drop_of_length-le}
use lib.Seq.{take_all, get_or-take, get_or-drop}

-- the part from i to e
pub part_length : (l : List ℕ) (i e : ℕ) → i ≤ e → e ≤ length l → length (take (e - i) (drop i l)) ≡ e - i
part_length l i e begins ends = simp (length-take, length-drop) (omega arith)

pub part_place : (l : List ℕ) (i e j : ℕ) → j < e - i → get_or (take (e - i) (drop i l)) j 0 ≡ get_or l (i + j) 0
part_place l i e j low = get_or-take (e - i) (drop i l) j 0 low ∙ get_or-drop i l j 0

pub tail : (n : ℕ) (l : List ℕ) → take (length l - n) (drop n l) ≡ drop n l
tail n l = take_all (length l - n) (drop n l) (omega (arith, length-drop n l))

pub put_tail : (n : ℕ) (l e : List ℕ) → put_mid n (length l - n) l e ≡ take n l ++ e
put_tail n l e =
    ap (λ (r : List ℕ). take n l ++ (e ++ r)) (drop_of_length-le (drop n l) {i = length l - n} (omega (arith, length-drop n l)))
    ∙ ap (λ (r : List ℕ). take n l ++ r) (append-nil e)

pub filled : (src room : List ℕ) → length room ≡ length src → take (length src) src ++ drop (length src) room ≡ src
filled src room e =
    ap₂ (λ (l m : List ℕ). l ++ m) (take_all (length src) src (omega arith)) (drop_of_length-le room {i = length src} (omega arith))
    ∙ append-nil src
