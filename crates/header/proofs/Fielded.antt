-- The laws of 16-bit fields one after the other: their length, and what storing one more adds.
-- Assumes nothing.
use mathlib.Core.Path.{◌≡◌, refl, sym, ap, ap₂, ◌∙◌}
use mathlib.Core.List.{List, [], ◌∷◌, ◌++◌, append_assoc, append-nil}
use Prim.Native.Nat.{ℕ, ◌+◌, ◌*◌, ◌<◌}
use native.Mathlib.Numerals.{add-one}
use native.Mathlib.Omega.{arith}
use borrow.Rule.Slice.PartMut.{put_mid}
use lib.ListN.{length, get_or, take, drop, drop_of_length-le}
use lib.Seq.{take-suc, take_at, drop_at, drop-drop, take_all, length-take-le}
use Rattle.header.specs.Fields.{big_endian, fields}

pub length_fields : (vs : List ℕ) → length (fields vs) ≡ 2 * length vs
unfolding fields
length_fields [] = refl
length_fields (v ∷ vs) = let later = length_fields vs in omega arith

fields_append : (vs ws : List ℕ) → fields (vs ++ ws) ≡ fields vs ++ fields ws
unfolding fields
fields_append [] ws = refl
fields_append (v ∷ vs) ws = ap (λ (l : List ℕ). big_endian v ++ l) (fields_append vs ws)

-- the first i fields are stored: one more, over two bytes, and all
pub fields_more : (vs d : List ℕ) (i n : ℕ) → i < length vs → n ≡ 2
    → put_mid (2 * i) n (fields (take i vs) ++ drop (2 * i) d) (big_endian (get_or vs i 0)) ≡ fields (take (i + 1) vs) ++ drop (2 * (i + 1)) d
unfolding fields
fields_more vs d i n h two =
    let stored = fields (take i vs) in
    let field = big_endian (get_or vs i 0) in
    ap₂ (λ (l m : List ℕ). l ++ (field ++ drop n m)) (take_at stored (drop (2 * i) d) (2 * i) front) (drop_at stored (drop (2 * i) d) (2 * i) front)
    ∙ ap (λ (l : List ℕ). stored ++ (field ++ l)) (drop-drop n (2 * i) d)
    ∙ sym (ap₂ (λ (l : List ℕ) (k : ℕ). l ++ drop k d) one_more (omega arith) ∙ append_assoc stored field (drop (2 * i + n) d))
  where
    front : length (fields (take i vs)) ≡ 2 * i
    front = length_fields (take i vs) ∙ ap (λ (k : ℕ). 2 * k) (length-take-le i vs (omega arith))

    one_more : fields (take (i + 1) vs) ≡ fields (take i vs) ++ big_endian (get_or vs i 0)
    one_more = rw (add-one i, take-suc vs i 0 h) (fields_append (take i vs) (get_or vs i 0 ∷ []))

pub fields_all : (vs d : List ℕ) (i : ℕ) → i ≡ length vs → length d ≡ 2 * length vs → fields (take i vs) ++ drop (2 * i) d ≡ fields vs
fields_all vs d i e room =
    ap₂ (λ (l m : List ℕ). fields l ++ m) (take_all i vs (omega arith)) (drop_of_length-le d {i = 2 * i} (omega arith)) ∙ append-nil (fields vs)
