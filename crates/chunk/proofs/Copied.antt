-- What a copy of a part makes of a chunk and of a list: padded with 00, and as much as there is room for.
-- Assumes nothing.
use mathlib.Core.Path.{◌≡◌, refl, sym, ap, ◌∙◌}
use mathlib.Core.Logic.{◌⊎◌, ⊎_elim}
use mathlib.Core.List.{List, ◌++◌}
use Prim.Native.Nat.{ℕ, ◌+◌, ◌-◌, ◌≤◌, ◌<◌}
use native.Mathlib.Decide.{ℕ_discrete}
use native.Mathlib.Omega.{arith}
use borrow.Author.Tests.{lt-ltb, le-ltb}
use Rattle.std.proofs.lemmas.List.{get_or-append_right}
use lib.Dec.{ltb}
use lib.ListN.{length, get_or, set, take, drop, replicate, length-set, length-append, length-take, length-drop, length-replicate, get_or-append, get_or-replicate, get_or-eq_default}
use lib.Seq.{get_or-set_same, get_or-set_other, get_or-take, get_or-drop}
use Rattle.base.specs.Choice.{choose}
use Rattle.base.proofs.Choice.{below_or_not}
use Rattle.base.proofs.Table.{is_tabulate}
use Rattle.chunk.specs.Chunk.{width, each, stored}

-- the first bytes of a list that has enough
pub whole : (from : List ℕ) → width ≤ length from → take width from ≡ each (λ j. get_or from j 0)
whole from long = is_tabulate width _ (take width from) (simp length-take (omega arith)) (λ j h. get_or-take width from j 0 h)

-- fewer bytes in front of a chunk of 00, and a 00 stored behind them
pub padded : (from : List ℕ) {part : List ℕ} → length from < width → part ≡ from
    → set (part ++ drop (length from) (replicate width 0)) (length from) 0 ≡ each (λ j. get_or from j 0)
padded from {part} short is = rw is (is_tabulate width _ (set l (length from) 0) (simp (length-set, long) (omega arith)) (λ j h. at j h (ℕ_discrete j (length from)) (below_or_not j (length from))))
  where
    zeros : List ℕ
    zeros = drop (length from) (replicate width 0)

    l : List ℕ
    l = from ++ zeros

    long : length l ≡ width
    long = simp (length-append, length-drop, length-replicate) (omega arith)

    at : (j : ℕ) → j < width → Dec (j ≡ length from) → (j < length from) ⊎ (length from ≤ j) → get_or (set l (length from) 0) j 0 ≡ get_or from j 0
    at j h (yes e) side = rw e (get_or-set_same l (length from) 0 0 (omega (arith, long)) ∙ sym (get_or-eq_default from 0 (omega arith)))
    at j h (no n) side =
        get_or-set_other l (length from) j 0 0 n
        ∙ ⊎_elim (λ low. get_or-append from zeros 0 j low)
        (λ high.
        get_or-append_right from zeros (length from) j 0 refl high
        ∙ get_or-drop (length from) (replicate width 0) (j - length from) 0
        ∙ get_or-replicate width (length from + (j - length from)) 0 0 (omega arith)
        ∙ sym (get_or-eq_default from 0 high))
        side

-- a list that is filled by fewer bytes than a chunk has
pub fitted : (to c : List ℕ) {new : List ℕ} → length c ≡ width → length to < width → new ≡ take (length to) c → new ≡ stored to c
fitted to c {new} long short is =
    is ∙ is_tabulate (length to) _ (take (length to) c) (simp length-take (omega arith)) (λ j h. rw (lt-ltb j width (omega arith)) (get_or-take (length to) c j 0 h))

-- a chunk in front of a list
pub put_whole : (to c : List ℕ) {new : List ℕ} → length c ≡ width → width ≤ length to → new ≡ c → new ++ drop width to ≡ stored to c
put_whole to c {new} long room is = rw is (is_tabulate (length to) _ (c ++ drop width to) (simp (length-append, length-drop) (omega arith)) (λ j h. at j (below_or_not j width)))
  where
    at : (j : ℕ) → (j < width) ⊎ (width ≤ j) → get_or (c ++ drop width to) j 0 ≡ choose (ltb j width) (get_or c j 0) (get_or to j 0)
    at j side =
        ⊎_elim (λ low. rw (lt-ltb j width low) (get_or-append c (drop width to) 0 j (omega arith)))
        (λ high. rw (le-ltb j width high) (get_or-append_right c (drop width to) width j 0 long high ∙ get_or-drop width to (j - width) 0 ∙ ap (λ (k : ℕ). get_or to k 0) (omega arith)))
        side
