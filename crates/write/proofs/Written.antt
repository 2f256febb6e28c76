-- What is stored on a stretch is the write in each of its columns, and such a stretch, with the other columns as they were, is the write's
-- definition.
-- Assumes nothing.
use mathlib.Core.Path.{◌≡◌, refl, ap, ap₂, subst, ◌∙◌}
use mathlib.Core.Logic.{inl, inr, ⊎_elim}
use mathlib.Core.List.{List}
use Prim.Native.Nat.{ℕ, ◌+◌, ◌-◌, ◌≤◌, ◌<◌}
use native.Mathlib.Omega.{arith}
use borrow.Author.Tests.{lt-ltb, le-ltb, le-leb, lt-leb}
use lib.ListN.{length, get_or, take, drop}
use Rattle.base.specs.Choice.{choose}
use Rattle.base.proofs.Tails.{part_length, part_place}
use Rattle.base.proofs.Choice.{below_or_not}
use Rattle.gf256.specs.Field.{sum, product, power}
use Rattle.column.specs.Column.{Column, put, reed_solomon, write_column}
use Rattle.chunk.specs.declared.Sums.{Sums}
use Rattle.chunk.specs.Chunk.{width, each}
use Rattle.chunk.proofs.Laws.{each_at}
use Rattle.shape.specs.declared.Geometry.{Geometry}
use Rattle.shape.specs.Layout.{column, lift}
use Rattle.shape.specs.Refusals.{WellShaped}
use Rattle.shape.specs.Columns.{ColumnsMapped}
use Rattle.shape.proofs.Columns.{columns_count, columns_as, columns_then, columns_more, columns_all}
use Rattle.stretch.specs.Stretch.{Has, column_of, set_on}
use Rattle.stretch.proofs.Laws.{has_same, seen, set_columns, set_two}
use Rattle.write.specs.Write.{covers}
use Rattle.change.specs.Changed.{changed_by}

pub stretch_lift : {g : Geometry} {offset count : ℕ} {f : ℕ → Column → Column} {s t : List ℕ} → WellShaped g s → offset + count ≤ g.b
    → ColumnsMapped g offset count f s t
    → t ≡ lift g (λ i c. choose (covers offset count i) (f (i - offset) c) c) s
stretch_lift {g} {offset} {count} {f} {s} {t} shaped fits step =
    columns_all shaped record { kept = step.kept; within = λ i p. at (0 + i) i (omega arith) p; outside = λ c p q. absurd (⊎_elim (λ l. omega arith) (λ l. omega arith) q) }
  where
    at : (k i : ℕ) → k ≡ i → i < g.b → column g t k ≡ choose (covers offset count i) (f (i - offset) (column g s k)) (column g s k)
    at k i e p =
        ⊎_elim (λ l. rw (lt-leb offset i l) (step.outside k (omega arith) (inl (omega arith))))
        (λ l.
        ⊎_elim
        (λ m. rw (le-leb offset i l, lt-ltb i (offset + count) m) (subst (λ (a : ℕ). column g t a ≡ f (i - offset) (column g s a)) (omega arith) (step.within (i - offset) (omega arith))))
        (λ m. rw (le-leb offset i l, le-ltb i (offset + count) m) (step.outside k (omega arith) (inr (omega arith))))
        (below_or_not i (offset + count)))
        (below_or_not i offset)

-- P, Q and the disk's bytes set one after the other, d being the new bytes as a chunk
pub written_is : {g : Geometry} {disk i w c : ℕ} (new : List ℕ) {s t u v old p q d : List ℕ} {after : Sums} → Has g s i w → disk < g.n → c ≡ power 2 disk
    → old ≡ each (λ j. column_of g s i w j disk)
    → p ≡ each (λ j. column_of g s i w j g.n)
    → q ≡ each (λ j. column_of g s i w j (g.n + 1))
    → d ≡ each (λ j. get_or new j 0)
    → after ≡ changed_by c old d (record { p = p; q = q })
    → t ≡ set_on g (g.n + 1) i w after.q s
    → u ≡ set_on g g.n i w after.p t
    → v ≡ set_on g disk i w d u
    → ColumnsMapped g i w (λ j col. write_column reed_solomon g.n disk (get_or new j 0) col) s v
unfolding reed_solomon
written_is {g} {disk} {i} {w} {c} new {s} {d = d} {after = after} h known is_c is_old is_p is_q is_d is_after set_q set_p set_d =
    let parities = set_two h after.p after.q (omega arith) (omega arith) set_q set_p in
    columns_as (columns_then parities (set_columns (has_same h parities.kept) (omega arith) d set_d))
    (λ j l.
    let small : j < width = omega (arith, h.held) in
    let change = ap₂ sum (seen h (λ e. e disk) is_old j l) (at is_d j small) in
    ap₂ (λ (x y : ℕ). put disk (get_or d j 0) (put g.n x (put (g.n + 1) y (column g s (i + j)))))
    (ap (λ (r : Sums). get_or r.p j 0) is_after ∙ each_at _ j small ∙ ap₂ sum (seen h (λ e. e g.n) is_p j l) change)
    (ap (λ (r : Sums). get_or r.q j 0) is_after ∙ each_at _ j small ∙ ap₂ sum (seen h (λ e. e (g.n + 1)) is_q j l) (ap₂ product is_c change))
    ∙ ap (λ (x : ℕ). put disk x (put g.n (sum (column g s (i + j) g.n) (sum (column g s (i + j) disk) (get_or new j 0))) (put (g.n + 1) (sum (column g s (i + j) (g.n + 1)) (product (power 2 disk) (sum (column g s (i + j) disk) (get_or new j 0)))) (column g s (i + j))))) (at is_d j small))
  where
    at : d ≡ each (λ j. get_or new j 0) → (j : ℕ) → j < width → get_or d j 0 ≡ get_or new j 0
    at is j l = ap (λ (x : List ℕ). get_or x j 0) is ∙ each_at _ j l

-- the new bytes from j to e, lent as a part, written behind the first j
pub written_more : (g : Geometry) (disk offset : ℕ) (new : List ℕ) {j : ℕ} {s t u : List ℕ} (e : ℕ) → j ≤ e → e ≤ length new → offset + length new ≤ g.b
    → ColumnsMapped g offset j (λ k c. write_column reed_solomon g.n disk (get_or new k 0) c) s t
    → ColumnsMapped g (offset + j) (length (take (e - j) (drop j new))) (λ k c. write_column reed_solomon g.n disk (get_or (take (e - j) (drop j new)) k 0) c) t u
    → ColumnsMapped g offset e (λ k c. write_column reed_solomon g.n disk (get_or new k 0) c) s u
written_more g disk offset new {j} {t = t} e begins ends fits first second =
    columns_count (omega arith)
    (columns_more refl (omega arith) first
    (columns_as (columns_count (part_length new j e begins ends) second)
    (λ k p. ap (λ (x : ℕ). write_column reed_solomon g.n disk x (column g t (offset + j + k))) (part_place new j e k p))))
