-- What a summary says of the verdicts, and what the verdicts say of it: 0 exactly where all are 0; v, neither 0 nor 4, exactly where one is v and
-- each is 0 or v; and, as no verdict is 4, 4 exactly where two other than 0 differ. Three inductions: the summary of verdicts 0 or v is 0 or v;
-- one other than 4 equals each verdict other than 0; and where not all verdicts are 0 or v, there is one that is neither.
-- Assumes nothing.
use mathlib.Core.Path.{◌≡◌, refl, sym, ◌∙◌}
use mathlib.Core.Logic.{◌≢◌, ◌↔◌, ◌⊎◌, inl, inr, ⊎_elim}
use mathlib.Core.List.{List, [], ◌∷◌}
use Prim.Native.Nat.{ℕ, zero, suc, ◌<◌}
use native.Mathlib.Nat.{suc-ne-zero, not-suc-le-zero, le_of_suc-le-suc}
use native.Mathlib.Omega.{arith}
use native.Mathlib.Decide.{ℕ_discrete}
use lib.ListN.{length, get_or}
use Rattle.verdict.specs.Summary.{mixed, joined, summary}
use Rattle.verdict.specs.Agreement.{CleanOr, Agree, Differ}
use Rattle.verdict.proofs.Summary.{joined_left, joined_right, joined_same, joined_over, joined_comm, mixed_right}

pub summary_clean_or : (v : ℕ) (vs : List ℕ) → CleanOr v vs → (summary vs ≡ 0) ⊎ (summary vs ≡ v)
unfolding summary
summary_clean_or v [] each = inl refl
summary_clean_or v (w ∷ vs) each = go (each 0 (omega arith)) (summary_clean_or v vs (λ i h. each (suc i) (omega arith)))
  where
    go : (w ≡ 0) ⊎ (w ≡ v) → (summary vs ≡ 0) ⊎ (summary vs ≡ v) → (joined w (summary vs) ≡ 0) ⊎ (joined w (summary vs) ≡ v)
    go (inl e) s = rw (e, joined_left) s
    go (inr e) (inl s) = inr (rw (s, joined_right) e)
    go (inr e) (inr s) = inr (rw (e, s) (joined_same v))

summary_over : (vs : List ℕ) (i : ℕ) → (get_or vs i 0 ≡ 0) ⊎ (summary vs ≡ get_or vs i 0) ⊎ (summary vs ≡ mixed)
unfolding summary
summary_over [] i = inl refl
summary_over (w ∷ vs) zero = joined_over w (summary vs)
summary_over (w ∷ vs) (suc i) = go (summary_over vs i)
  where
    v : ℕ
    v = get_or vs i 0

    go : (v ≡ 0) ⊎ (summary vs ≡ v) ⊎ (summary vs ≡ mixed) → (v ≡ 0) ⊎ (joined w (summary vs) ≡ v) ⊎ (joined w (summary vs) ≡ mixed)
    go (inl e) = inl e
    go (inr (inl e)) = rw (e, joined_comm w v) (joined_over v w)
    go (inr (inr e)) = inr (inr (rw e (mixed_right w)))

-- a verdict that is neither 0 nor v
record Other (v : ℕ) (vs : List ℕ) : Type 0 where
  at : ℕ
  within : at < length vs
  unclean : get_or vs at 0 ≢ 0
  other : get_or vs at 0 ≢ v

other_or : (v : ℕ) (vs : List ℕ) → Other v vs ⊎ CleanOr v vs
other_or v [] = inr (λ i h. absurd (not-suc-le-zero h))
other_or v (w ∷ vs) = go (ℕ_discrete w 0) (ℕ_discrete w v) (other_or v vs)
  where
    first : (w ≡ 0) ⊎ (w ≡ v) → CleanOr v vs → CleanOr v (w ∷ vs)
    first e each zero h = e
    first e each (suc i) h = each i (le_of_suc-le-suc h)

    later : (w ≡ 0) ⊎ (w ≡ v) → Other v vs ⊎ CleanOr v vs → Other v (w ∷ vs) ⊎ CleanOr v (w ∷ vs)
    later e (inl o) = inl (record { at = suc o.at; within = omega arith; unclean = o.unclean; other = o.other })
    later e (inr each) = inr (first e each)

    go : Dec (w ≡ 0) → Dec (w ≡ v) → Other v vs ⊎ CleanOr v vs → Other v (w ∷ vs) ⊎ CleanOr v (w ∷ vs)
    go (yes e) d rest = later (inl e) rest
    go (no n) (yes e) rest = later (inr e) rest
    go (no n) (no m) rest = inl (record { at = 0; within = omega arith; unclean = n; other = m })

module _ (vs : List ℕ) where
  other_than : (v : ℕ) → summary vs ≢ 0 → summary vs ≢ v → Other v vs
  other_than v n m =
      ⊎_elim (λ o. o) (λ each. ⊎_elim (λ e. absurd (n e)) (λ e. absurd (m e)) (summary_clean_or v vs each)) (other_or v vs)

  -- a summary other than 4 equals each verdict other than 0
  summary_each : summary vs ≢ mixed → CleanOr (summary vs) vs
  summary_each n i h = ⊎_elim inl (⊎_elim (λ e. inr (sym e)) (λ e. absurd (n e))) (summary_over vs i)

  unclean : {v i : ℕ} → CleanOr v vs → i < length vs → get_or vs i 0 ≢ 0 → get_or vs i 0 ≡ v
  unclean {i = i} each h n = ⊎_elim (λ e. absurd (n e)) (λ e. e) (each i h)

  pub summary_clean : (summary vs ≡ 0) ↔ ((i : ℕ) → i < length vs → get_or vs i 0 ≡ 0)
  summary_clean = (
    λ e i h. ⊎_elim (λ z. z) (λ f. f ∙ e) (summary_each (λ m. suc-ne-zero 3 (sym m ∙ e)) i h),
    λ each. ⊎_elim (λ e. e) (λ e. e) (summary_clean_or 0 vs (λ i h. inl (each i h))),
  )

  pub summary_agree : (v : ℕ) → v ≢ 0 → v ≢ mixed → (summary vs ≡ v) ↔ Agree v vs
  summary_agree v some n = (to, from)
    where
      to : summary vs ≡ v → Agree v vs
      to e =
          let each = rw e at (summary_each (λ m. n (sym e ∙ m))) in
          let o = other_than 0 (λ z. some (sym e ∙ z)) (λ z. some (sym e ∙ z)) in
          record { at = o.at; within = o.within; has = unclean each o.within o.unclean; others = each }

      from : Agree v vs → summary vs ≡ v
      from a =
          ⊎_elim (λ z. absurd (some (sym a.has ∙ summary_clean.0 z a.at a.within))) (λ e. e)
          (summary_clean_or v vs a.others)

  -- no verdict on a column is 4
  pub summary_differ : ((i : ℕ) → i < length vs → get_or vs i 0 ≢ mixed) → (summary vs ≡ mixed) ↔ Differ vs
  summary_differ none = (to, λ d. from d (ℕ_discrete (summary vs) mixed))
    where
      to : summary vs ≡ mixed → Differ vs
      to e =
          let some : summary vs ≢ 0 = λ z. suc-ne-zero 3 (sym e ∙ z) in
          let o = other_than 0 some some in
          let p = other_than (get_or vs o.at 0) some (λ f. none o.at o.within (sym f ∙ e)) in
          record {
            one = p.at;
            other = o.at;
            one_within = p.within;
            other_within = o.within;
            one_unclean = p.unclean;
            other_unclean = o.unclean;
            different = p.other;
          }

      from : Differ vs → Dec (summary vs ≡ mixed) → summary vs ≡ mixed
      from d (yes e) = e
      from d (no n) =
          let each = summary_each n in
          absurd (d.different (unclean each d.one_within d.one_unclean ∙ sym (unclean each d.other_within d.other_unclean)))
