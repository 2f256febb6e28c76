-- The laws of a buffer that begins with new bytes: new bytes may follow others.
-- Assumes nothing.
use mathlib.Core.Path.{◌≡◌, sym, ap, ap₂, ◌∙◌}
use mathlib.Core.Bool.{Bool, true, false}
use mathlib.Core.List.{List, [], ◌∷◌, ◌++◌, append_assoc}
use Prim.Native.Nat.{ℕ, ◌+◌, ◌-◌, ◌/◌, ◌≤◌}
use native.Mathlib.Omega.{arith}
use borrow.Rule.Slice.PartMut.{put_mid}
use lib.Dec.{ltb}
use lib.ListN.{length, take, drop, length-append}
use lib.Seq.{take_at, drop_at, drop-drop}
use Rattle.base.specs.Choice.{choose}
use Rattle.base.proofs.Tails.{tail, put_tail}
use Rattle.roster_answer.specs.Words.{digit, decimal}
use Rattle.roster_answer.specs.Answer.{Begins}

pub digits_most : (n : ℕ) → length (decimal n) ≤ 3
unfolding decimal
digits_most n = go (ltb n 10) (ltb n 100)
  where
    go : (a b : Bool)
        → length (choose a (digit n ∷ []) (choose b (digit (n / 10) ∷ digit n ∷ []) (digit (n / 100) ∷ digit (n / 10) ∷ digit n ∷ []))) ≤ 3
    go true b = omega arith
    go false true = omega arith
    go false false = omega arith

-- new bytes that follow others, in the part of the buffer after those
pub begins_then : {a b out mid part : List ℕ} {m n : ℕ} → Begins a out m mid → Begins b (take (length mid - m) (drop m mid)) n part
    → Begins (a ++ b) out (m + n) (put_mid m (length mid - m) mid part)
begins_then {a} {b} {out} {mid} {part} {m} {n} first next =
    let front : take m mid ≡ a = ap (take m) first.output ∙ take_at a (drop (length a) out) m (sym first.count) in
    let rest : take (length mid - m) (drop m mid) ≡ drop (length a) out =
    tail m mid ∙ ap (drop m) first.output ∙ drop_at a (drop (length a) out) m (sym first.count)
    in
    record {
      count = simp length-append (omega (arith, first.count, next.count));
      output =
          put_tail m mid part
          ∙ ap₂ ◌++◌ front (next.output ∙ ap (λ (l : List ℕ). b ++ drop (length b) l) rest)
          ∙ rw (drop-drop (length b) (length a) out, length-append a b) (sym (append_assoc a b (drop (length a + length b) out)));
    }

pub numbered_most : (head : List ℕ) (n : ℕ) {out after : List ℕ} {r : ℕ} → Begins (head ++ decimal n) out r after → r ≤ length head + 3
numbered_most head n call = omega (arith, call.count, length-append head (decimal n), digits_most n)
