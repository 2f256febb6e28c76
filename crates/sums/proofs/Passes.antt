-- Passes over some columns: none, more columns behind them, one pass after another, and all passes, which encode; and the pass over a chunk.
-- Assumes nothing.
use mathlib.Core.Path.{◌≡◌, refl, sym, ap, ap₂, subst, ◌∙◌}
use mathlib.Core.Logic.{inl, inr, ⊎_elim}
use mathlib.Core.Bool.{Bool, true, false}
use mathlib.Core.List.{List}
use Prim.Native.Nat.{ℕ, ◌+◌, ◌*◌, ◌-◌, ◌%◌, ◌≤◌, ◌<◌}
use native.Mathlib.Nat.{not-suc-le-zero}
use native.Mathlib.Omega.{arith}
use borrow.Author.Tests.{eqb-true, eq-eqb, ne_eqb}
use lib.Dec.{eqb, ltb}
use lib.ListN.{get_or}
use Rattle.base.specs.Choice.{choose}
use Rattle.base.proofs.Choice.{both_true, below_or_not}
use Rattle.base.proofs.Table.{tabulate_same}
use Rattle.chunk.specs.Chunk.{width, each}
use Rattle.chunk.specs.declared.Sums.{Sums}
use Rattle.column.specs.Column.{Column, put, encode_column, reed_solomon}
use Rattle.column.proofs.Put.{put_same, put_other}
use Rattle.losses.proofs.Again.{put_over}
use Rattle.shape.specs.declared.Geometry.{Geometry}
use Rattle.shape.specs.Layout.{column, lift}
use Rattle.shape.specs.Refusals.{WellShaped}
use Rattle.shape.specs.Columns.{ColumnsMapped}
use Rattle.shape.proofs.Accepts.{shape_accepts}
use Rattle.shape.proofs.Columns.{shaped_same}
use Rattle.stretch.specs.Stretch.{Has, column_of}
use Rattle.stretch.proofs.Laws.{column_of_lem}
use Rattle.sums.specs.Sums.{tail_p, tail_q, Tails, HighestAdded, DisksAdded}
use Rattle.sums.specs.Passes.{page, in_passes, parities_set, stage, Staged, Passed}
use Rattle.sums.proofs.Horner.{at, tail_p_all, tail_q_all}

-- what the tests say
pub set_in_passes : (g : Geometry) (s : List ℕ) → WellShaped g s → in_passes g ≡ true → parities_set g s ≡ lift g (λ i c. encode_column reed_solomon g.n c) s
set_in_passes g s shaped passes = rw (shape_accepts g s shaped, passes)

pub whole_pages : (g : Geometry) → in_passes g ≡ true → g.b % page ≡ 0
whole_pages g passes = eqb-true (g.b % page) 0 (both_true (ltb 6 g.n) (eqb (g.b % page) 0) passes).1

-- ---- the stages of a column: the first is the column, the last is encoded, and its P and Q alone are others
module _ (n : ℕ) (c : Column) where
  stage_none : stage n n c ≡ c
  stage_none = rw (eq-eqb n n refl)

  stage_some : {k : ℕ} → k < n → stage n k c ≡ put n (tail_p n k c) (put (n + 1) (tail_q n k c) c)
  stage_some {k} h = rw (ne_eqb k n (λ e. omega arith))

  stage_all : 0 < n → stage n 0 c ≡ encode_column reed_solomon n c
  stage_all h = stage_some h ∙ ap₂ (λ (p q : ℕ). put n p (put (n + 1) q c)) (tail_p_all n c) (tail_q_all n c)

  stage_p_lem : {k : ℕ} → k < n → stage n k c n ≡ tail_p n k c
  stage_p_lem {k} h = ap (λ (e : Column). e n) (stage_some h) ∙ put_same n (tail_p n k c) (put (n + 1) (tail_q n k c) c)

  stage_q_lem : {k : ℕ} → k < n → stage n k c (n + 1) ≡ tail_q n k c
  stage_q_lem {k} h = ap (λ (e : Column). e (n + 1)) (stage_some h) ∙ put_other n (tail_p n k c) (put (n + 1) (tail_q n k c) c) (n + 1) (λ e. omega arith) ∙ put_same (n + 1) (tail_q n k c) c

  stage_disk : {k : ℕ} → k < n → (m : ℕ) → m < n → stage n k c m ≡ c m
  stage_disk {k} h m l = ap (λ (e : Column). e m) (stage_some h) ∙ put_other n (tail_p n k c) (put (n + 1) (tail_q n k c) c) m (λ e. omega arith) ∙ put_other (n + 1) (tail_q n k c) c m (λ e. omega arith)

  stage_over : (k v w : ℕ) → put n v (put (n + 1) w (stage n k c)) ≡ put n v (put (n + 1) w c)
  stage_over k v w = go (eqb k n)
    where
      go : (t : Bool) → put n v (put (n + 1) w (choose t c (put n (tail_p n k c) (put (n + 1) (tail_q n k c) c)))) ≡ put n v (put (n + 1) w c)
      go true = refl
      go false = put_over n (n + 1) v w _ _ c

-- ---- passes
pub passed_same : {g : Geometry} {i w k : ℕ} {s : List ℕ} → Passed g i w k k s s
passed_same = record { kept = refl; within = λ f staged. staged; outside = λ c p q. refl }

module _ {g : Geometry} {i from to : ℕ} where
  pub passed_none : {s : List ℕ} → Passed g i 0 from to s s
  passed_none = record { kept = refl; within = λ f staged j p. absurd (not-suc-le-zero p); outside = λ c p q. refl }

  -- w columns, and then v more behind them
  pub passed_more : {w v next : ℕ} {s t u : List ℕ} → next ≡ i + w → next + v ≤ g.b → Passed g i w from to s t → Passed g next v from to t u
      → Passed g i (w + v) from to s u
  passed_more {w} {v} {next} {s} {t} {u} behind_them fits first second =
      record {
        kept = second.kept ∙ first.kept;
        within = λ f staged j p. ⊎_elim (λ l. second.outside (i + j) (omega arith) (inl (omega arith)) ∙ first.within f (λ k m. staged k (omega arith)) j l) (λ l. behind f staged j p l) (below_or_not j w);
        outside = λ c p q.
            second.outside c p (⊎_elim (λ l. inl (omega arith)) (λ l. inr (omega arith)) q)
            ∙ first.outside c p (⊎_elim (λ l. inl l) (λ l. inr (omega arith)) q);
      }
    where
      behind : (f : ℕ → Column) → Staged g i (w + v) to f s → (j : ℕ) → j < w + v → w ≤ j → column g u (i + j) ≡ stage g.n from (f j)
      behind f staged j p l =
          subst (λ (k : ℕ). column g u (i + k) ≡ stage g.n from (f k)) (omega arith)
          (subst (λ (k : ℕ). column g u k ≡ stage g.n from (f (w + (j - w)))) (omega arith)
          (second.within (λ k. f (w + k))
          (λ k m. first.outside (next + k) (omega arith) (inr (omega arith)) ∙ subst (λ (a : ℕ). column g s a ≡ stage g.n to (f (w + k))) (omega arith) (staged (w + k) (omega arith)))
          (j - w)
          (omega arith)))

  -- one pass after another
  pub passed_on : {w mid : ℕ} {s t u : List ℕ} → Passed g i w mid to s t → Passed g i w from mid t u → Passed g i w from to s u
  passed_on first second =
      record {
        kept = second.kept ∙ first.kept;
        within = λ f staged. second.within f (first.within f staged);
        outside = λ c p q. second.outside c p q ∙ first.outside c p q;
      }

pub passed_all : {g : Geometry} {i w : ℕ} {s t : List ℕ} → 0 < g.n → Passed g i w 0 g.n s t → ColumnsMapped g i w (λ j c. encode_column reed_solomon g.n c) s t
passed_all {g} {i} {s = s} some passed =
    record {
      kept = passed.kept;
      within = λ j l. passed.within (λ k. column g s (i + k)) (λ k m. sym (stage_none g.n (column g s (i + k)))) j l ∙ stage_all g.n (column g s (i + j)) some;
      outside = passed.outside;
    }

-- ---- the chunks of a page
module _ {g : Geometry} {i from to m : ℕ} {s t : List ℕ} (fits : i + page ≤ g.b) (passed : Passed g i (width * m) from to s t) where
  -- the next one lies within the stripe
  pub page_chunk : WellShaped g s → m < 32 → Has g t (i + width * m) width
  page_chunk shaped left = record { shaped = shaped_same shaped passed.kept; fits = omega (arith, fits); held = omega arith }

  pub page_next : {u : List ℕ} → m < 32 → Passed g (i + width * m) width from to t u → Passed g i (width * (m + 1)) from to s u
  page_next {u} left chunk = subst (λ (w : ℕ). Passed g i w from to s u) (omega arith) (passed_more refl (omega (arith, fits)) passed chunk)

-- ---- a chunk
-- the highest disk, and the other disks of the first pass
pub chunk_begun : (g : Geometry) (s : List ℕ) (i from : ℕ) {a b : Sums} → HighestAdded g i s a → DisksAdded g i from (g.n - 1) s a b → (f : ℕ → Column) → Staged g i width g.n f s
    → Tails g.n from f b
chunk_begun g s i from highest added f staged =
    let same : (j k : ℕ) → j < width → f j k ≡ column g s (i + j) k = λ j k l. sym (ap (λ (e : Column). e k) (staged j l ∙ stage_none g.n (f j))) in
    added f (λ j k l low high. same j k l) (highest f (λ j k l low high. same j k l))

module _ {g : Geometry} {s : List ℕ} {i : ℕ} where
  -- P and Q put in each column, where they are the sums that the pass ends with
  pub chunk_passed : {from to : ℕ} (a : Sums) {t : List ℕ} → from < g.n → ((f : ℕ → Column) → Staged g i width to f s → Tails g.n from f a)
      → ColumnsMapped g i width (λ j c. put g.n (get_or a.p j 0) (put (g.n + 1) (get_or a.q j 0) c)) s t
      → Passed g i width from to s t
  chunk_passed {from} {to} a some sums mapped =
      let n = g.n in
      record {
        kept = mapped.kept;
        within = λ f staged j l.
            mapped.within j l
            ∙ ap (λ (c : Column). put n (get_or a.p j 0) (put (n + 1) (get_or a.q j 0) c)) (staged j l)
            ∙ stage_over n (f j) to (get_or a.p j 0) (get_or a.q j 0)
            ∙ ap₂ (λ (v w : ℕ). put n v (put (n + 1) w (f j))) (at _ (sums f staged).first j l) (at _ (sums f staged).second j l)
            ∙ sym (stage_some n (f j) some);
        outside = mapped.outside;
      }

  -- the sums that P and Q hold, and the disks of the pass added to them
  pub chunk_carried : {from to : ℕ} {a b : Sums} → Has g s i width → to < g.n → a.p ≡ each (λ j. column_of g s i width j g.n) → a.q ≡ each (λ j. column_of g s i width j (g.n + 1))
      → DisksAdded g i from to s a b
      → (f : ℕ → Column)
      → Staged g i width to f s
      → Tails g.n from f b
  chunk_carried h below is_p is_q added f staged =
      let n = g.n in
      let there : (r j : ℕ) → j < width → column_of g s i width j r ≡ stage n _ (f j) r = λ r j l. ap (λ (e : Column). e r) (column_of_lem h j l ∙ staged j l) in
      added f (λ j k l low high. sym (ap (λ (e : Column). e k) (staged j l) ∙ stage_disk n (f j) below k (omega arith)))
      (record {
        first = is_p ∙ tabulate_same width (λ j l. there n j l ∙ stage_p_lem n (f j) below);
        second = is_q ∙ tabulate_same width (λ j l. there (n + 1) j l ∙ stage_q_lem n (f j) below);
      })
