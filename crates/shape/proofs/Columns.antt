-- The laws of steps that change some columns: none, the same said otherwise, one step after another on the same columns, on the next ones
-- and on some of both, and all columns of the stripe, which is `lift`.
-- Assumes nothing.
use Rattle.std.proofs.Common.{◌≡◌, ℕ, ◌+◌, ◌-◌, ◌<◌, ◌≤◌, List, length, sym, refl, ap, ◌∙◌, subst, inl, inr, ⊎_elim, not-suc-le-zero, zero-add, arith}
use Rattle.base.proofs.Choice.{below_or_not}
use Rattle.column.specs.Column.{Column}
use Rattle.shape.specs.declared.Geometry.{Geometry}
use Rattle.shape.specs.Layout.{column, lift}
use Rattle.shape.specs.Refusals.{WellShaped}
use Rattle.shape.specs.Columns.{ColumnsMapped}
use Rattle.shape.proofs.Places.{length_lift, lift_at, by_columns}

-- a stripe of the same length is as well shaped
pub shaped_same : {g : Geometry} {s t : List ℕ} → WellShaped g s → length t ≡ length s → WellShaped g t
shaped_same shaped same =
    record { disks = shaped.disks; block = shaped.block; some = shaped.some; disk = shaped.disk; whole = same ∙ shaped.whole }

module _ {g : Geometry} {i : ℕ} where
  pub columns_none : {s : List ℕ} {f : ℕ → Column → Column} → ColumnsMapped g i 0 f s s
  columns_none = record { kept = refl; within = λ j p. absurd (not-suc-le-zero p); outside = λ c p q. refl }

  pub columns_count : {w v : ℕ} {s t : List ℕ} {f : ℕ → Column → Column} → w ≡ v → ColumnsMapped g i w f s t → ColumnsMapped g i v f s t
  columns_count {s = s} {t = t} {f = f} same step = subst (λ (k : ℕ). ColumnsMapped g i k f s t) same step

  pub columns_as : {w : ℕ} {s t : List ℕ} {f h : ℕ → Column → Column} → ColumnsMapped g i w f s t
      → ((j : ℕ) → j < w → f j (column g s (i + j)) ≡ h j (column g s (i + j)))
      → ColumnsMapped g i w h s t
  columns_as step same = record { kept = step.kept; within = λ j p. step.within j p ∙ same j p; outside = step.outside }

  pub columns_then : {w : ℕ} {s t u : List ℕ} {f h : ℕ → Column → Column} → ColumnsMapped g i w f s t → ColumnsMapped g i w h t u
      → ColumnsMapped g i w (λ j c. h j (f j c)) s u
  columns_then {h = h} first second =
      record {
        kept = second.kept ∙ first.kept;
        within = λ j p. second.within j p ∙ ap (h j) (first.within j p);
        outside = λ c p q. second.outside c p q ∙ first.outside c p q;
      }

  -- w columns, and then v more behind them
  pub columns_more : {w v at : ℕ} {s t u : List ℕ} {f : ℕ → Column → Column} → at ≡ i + w → at + v ≤ g.b → ColumnsMapped g i w f s t
      → ColumnsMapped g at v (λ j. f (w + j)) t u
      → ColumnsMapped g i (w + v) f s u
  columns_more {w} {v} {at} {s} {t} {u} {f} behind_them fits first second =
      record {
        kept = second.kept ∙ first.kept;
        within = λ j p. ⊎_elim (λ l. second.outside (i + j) (omega arith) (inl (omega arith)) ∙ first.within j l) (λ l. behind j p l) (below_or_not j w);
        outside = λ c p q.
            second.outside c p (⊎_elim (λ l. inl (omega arith)) (λ l. inr (omega arith)) q)
            ∙ first.outside c p (⊎_elim (λ l. inl l) (λ l. inr (omega arith)) q);
      }
    where
      behind : (j : ℕ) → j < w + v → w ≤ j → column g u (i + j) ≡ f j (column g s (i + j))
      behind j p l =
          subst (λ (k : ℕ). column g u (i + k) ≡ f k (column g s (i + k))) (omega arith)
          (subst (λ (k : ℕ). column g u k ≡ f (w + (j - w)) (column g t k)) (omega arith) (second.within (j - w) (omega arith))
          ∙ ap (f (w + (j - w))) (first.outside (i + (w + (j - w))) (omega arith) (inr (omega arith))))

  -- v columns of which some were changed already, by a function that changes nothing the second time
  pub columns_again : {w k v at : ℕ} {s t u : List ℕ} {f : Column → Column} → at ≡ i + k → k ≤ w → w ≤ k + v → at + v ≤ g.b
      → ((c : Column) → f (f c) ≡ f c)
      → ColumnsMapped g i w (λ j. f) s t
      → ColumnsMapped g at v (λ j. f) t u
      → ColumnsMapped g i (k + v) (λ j. f) s u
  columns_again {w} {k} {v} {at} {s} {t} {u} {f} begins low high fits same first second =
      record {
        kept = second.kept ∙ first.kept;
        within = λ j p. ⊎_elim (λ l. second.outside (i + j) (omega arith) (inl (omega arith)) ∙ first.within j (omega arith)) (λ l. again j p l) (below_or_not j k);
        outside = λ c p q.
            second.outside c p (⊎_elim (λ l. inl (omega arith)) (λ l. inr (omega arith)) q)
            ∙ first.outside c p (⊎_elim (λ l. inl l) (λ l. inr (omega arith)) q);
      }
    where
      again : (j : ℕ) → j < k + v → k ≤ j → column g u (i + j) ≡ f (column g s (i + j))
      again j p l =
          subst (λ (a : ℕ). column g u a ≡ f (column g t a)) (omega arith) (second.within (j - k) (omega arith))
          ∙ ⊎_elim (λ b. ap f (first.within j b) ∙ same (column g s (i + j))) (λ b. ap f (first.outside (i + j) (omega arith) (inr (omega arith)))) (below_or_not j w)

-- all columns
pub columns_all : {g : Geometry} {f : ℕ → Column → Column} {s t : List ℕ} → WellShaped g s → ColumnsMapped g 0 g.b f s t → t ≡ lift g f s
columns_all {g} {f} {s} {t} shaped step =
    by_columns g shaped.some t (lift g f s) (step.kept ∙ shaped.whole) (length_lift g f s ∙ shaped.whole)
    (λ i r hi hr.
    ap (λ (c : Column). c r) (subst (λ (k : ℕ). column g t k ≡ f i (column g s k)) (zero-add i) (step.within i hi))
    ∙ sym (lift_at g f s shaped.whole hi hr))
