-- The laws of a strip's sums: what the tests say, before the first group and after the last, what they say of a chunk, and a loop that goes from
-- chunk to chunk.
-- Assumes nothing.
use mathlib.Core.Path.{◌≡◌, ap, ap₂, fun_ext, ◌∙◌}
use mathlib.Core.Bool.{true}
use mathlib.Core.List.{List, [], map}
use Prim.Native.Nat.{ℕ, ◌+◌, ◌*◌, ◌-◌, ◌≤◌, ◌<◌}
use native.Mathlib.Omega.{arith}
use borrow.Author.Count.{below_more}
use borrow.Author.Tests.{eqb-true, leb-true, ne_eqb, le-leb}
use lib.Dec.{eqb, ltb, leb}
use lib.ListN.{length, get_or, set, replicate, length-set}
use lib.Seq.{get_or-set_same, get_or-set_other}
use Rattle.std.specs.List.{range_with_len}
use Rattle.std.proofs.lemmas.List.FromFn.{get_or-map-range_with_len}
use Rattle.base.proofs.Choice.{both_true}
use Rattle.chunk.specs.Chunk.{width, each, Holds}
use Rattle.chunk.proofs.Laws.{each_at}
use Rattle.chunk.specs.declared.Sums.{Sums}
use Rattle.column.specs.Column.{Column}
use Rattle.losses.specs.Losses.{without}
use Rattle.shape.specs.declared.Geometry.{Geometry}
use Rattle.shape.specs.Layout.{column}
use Rattle.shape.specs.Refusals.{encode_refusal}
use Rattle.shape.proofs.Accepts.{shape_accepts}
use Rattle.shape.proofs.Refused.{well_shaped}
use Rattle.stretch.specs.Stretch.{Has}
use Rattle.stretch.proofs.Laws.{column_of_lem}
use Rattle.sums.specs.Sums.{sums_of, Tails, StoredAdded}
use Rattle.sums.specs.Strip.{strip, chunks, in_strips, has_strip, HasStrip, strip_columns, over_strip, StripSummed, staged}
use Rattle.sums.proofs.Horner.{two, tails_none, tails_stored}

-- what the tests say
pub strip_fits : (g : Geometry) → in_strips g ≡ true → strip ≤ g.b
strip_fits g e = leb-true strip g.b (both_true (ltb 64 g.n) (leb strip g.b) e).1

pub has_strip_lem : (g : Geometry) (s : List ℕ) (i : ℕ) → has_strip g (length s) i ≡ true → HasStrip g s i
has_strip_lem g s i e =
    let shape = both_true (eqb (encode_refusal g (length s)) 0) _ e in
    let long = both_true (leb strip g.b) (leb i (g.b - strip)) shape.1 in
    let low = leb-true strip g.b long.0 in
    let high = leb-true i (g.b - strip) long.1 in
    record { shaped = well_shaped g s (eqb-true (encode_refusal g (length s)) 0 shape.0); fits = omega arith }

pub has_strip_true : {g : Geometry} {s : List ℕ} {i : ℕ} → HasStrip g s i → has_strip g (length s) i ≡ true
has_strip_true {g} {s} {i} h =
    let fits = h.fits in
    simp (shape_accepts g s h.shaped, le-leb strip g.b (omega arith), le-leb i (g.b - strip) (omega arith))

-- its chunks are stretches that the stripe has
pub chunk_of : {g : Geometry} {s : List ℕ} {i : ℕ} → HasStrip g s i → (c : ℕ) → c + width ≤ strip → Has g s (i + c) width
chunk_of h c fits = record { shaped = h.shaped; fits = omega (arith, h.fits); held = omega arith }

module _ (n : ℕ) (f : ℕ → Column) where
  -- after a group that is not the last, and after the last
  pub staged_some : {k : ℕ} {a : Sums} → (k ≡ 0 → ⊥) → Tails n k f a → a ≡ staged n k f
  staged_some {k} some tails = rw (ne_eqb k 0 some) (ap₂ two tails.first tails.second)

  pub staged_stored : {k : ℕ} {a b : Sums} → k ≡ 0 → Tails n k f a → StoredAdded n f a b → b ≡ staged n k f
  staged_stored last tails stored = rw last (tails_stored n f (rw last at tails) stored)

  -- and back
  pub staged_tails : {k : ℕ} {a : Sums} → (k ≡ 0 → ⊥) → a ≡ staged n k f → Tails n k f a
  staged_tails {k} some is =
      let same = rw (ne_eqb k 0 some) at is in
      record { first = ap (λ (r : Sums). r.p) same; second = ap (λ (r : Sums). r.q) same }

-- before the first group each chunk holds 00
pub strip_none : {g : Geometry} {s : List ℕ} {i : ℕ} → HasStrip g s i → (x y : ℕ) → replicate chunks (two (replicate width 0) (replicate width 0)) ≡ over_strip g s i x y (staged g.n g.n)
strip_none {g} {s} {i} h x y =
    ap (λ (f : ℕ → Sums). map f (range_with_len 0 chunks))
    (fun_ext λ m. staged_some g.n (strip_columns g s i x y m) (omega (arith, h.shaped.disk)) (tails_none g.n _))

-- past the end
abbrev pub none : Sums
none = two [] []

-- what is worked out of the chunks of a strip, at chunk m
over_chunk : (g : Geometry) (s : List ℕ) (i x y : ℕ) (f : (ℕ → Column) → Sums) {l : List Sums} → l ≡ over_strip g s i x y f → (m : ℕ) → m < chunks
    → get_or l m none ≡ f (strip_columns g s i x y m)
over_chunk g s i x y f is m low =
    ap (λ (l : List Sums). get_or l m none) is
    ∙ get_or-map-range_with_len (λ m. f (strip_columns g s i x y m)) 0 chunks m m none low (omega arith)

-- what is worked out of each column of a strip's chunks says of chunk m: f and h of its columns
pub chunk_seen : {g : Geometry} {s : List ℕ} {i : ℕ} → HasStrip g s i → (x y : ℕ) (f h : Column → ℕ) {l : List Sums}
    → l ≡ over_strip g s i x y (λ c. two (each (λ j. f (c j))) (each (λ j. h (c j))))
    → (m : ℕ) → m < chunks
    → Holds width (λ j. f (without x y (column g s (i + width * m + j)))) (get_or l m none).p
    × Holds width (λ j. h (without x y (column g s (i + width * m + j)))) (get_or l m none).q
chunk_seen {g} {s} {i} has x y f h {l} is m low =
    let here = chunk_of has (width * m) (omega arith) in
    let chunk = over_chunk g s i x y (λ c. two (each (λ j. f (c j))) (each (λ j. h (c j)))) is m low in (
      λ j k. ap (λ (a : Sums). get_or a.p j 0) chunk ∙ each_at _ j k ∙ ap (λ (c : Column). f (without x y c)) (column_of_lem here j k),
      λ j k. ap (λ (a : Sums). get_or a.q j 0) chunk ∙ each_at _ j k ∙ ap (λ (c : Column). h (without x y c)) (column_of_lem here j k),
    )

-- so do its sums
pub chunk_summed : {g : Geometry} {s : List ℕ} {i : ℕ} → HasStrip g s i → (x y : ℕ) (before : List Sums) {l : List Sums} → StripSummed g i x y s before l → (m : ℕ) → m < chunks
    → get_or l m none ≡ sums_of g.n (strip_columns g s i x y m)
chunk_summed {g} {s} {i} h x y before summed m low = over_chunk g s i x y (sums_of g.n) (rw (has_strip_true h) at summed) m low

-- a loop that changes a strip's sums chunk after chunk, from f to h: those of the chunks below m are changed
pub record Changed (f h : ℕ → Sums) (l : List Sums) (m : ℕ) : Type 0 where
  pub long : length l ≡ chunks
  pub new : (k : ℕ) → k < m → get_or l k none ≡ h k
  pub old : (k : ℕ) → m ≤ k → k < chunks → get_or l k none ≡ f k

module _ {f h : ℕ → Sums} where
  pub changed_more : {l : List Sums} {m : ℕ} {a : Sums} → Changed f h l m → m < chunks → a ≡ h m → Changed f h (set l m a) (m + 1)
  changed_more {l} {m} {a} changed low is =
      record {
        long = length-set l m a ∙ changed.long;
        new =
            below_more (λ k. get_or (set l m a) k none ≡ h k) m (λ k p. get_or-set_other l m k a none (omega arith) ∙ changed.new k p)
            (get_or-set_same l m a none (omega (arith, changed.long)) ∙ is);
        old = λ k p q. get_or-set_other l m k a none (omega arith) ∙ changed.old k (omega arith) q;
      }
