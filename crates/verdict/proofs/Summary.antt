-- The summary of two stretches of columns is that of their summaries, since `joined` is associative, leaves out 0 and takes one summary twice as once.
-- So a loop that fills a list with verdicts and keeps their summary has four laws, as one that only fills: none filled, one place more, a part
-- more, and all.
-- Assumes nothing.
use mathlib.Core.Path.{◌≡◌, refl, sym, ap, ap₂, ◌∙◌, subst}
use mathlib.Core.Logic.{◌≢◌, ◌⊎◌, inl, inr, ⊎_elim}
use mathlib.Core.List.{List, [], ◌∷◌, ◌++◌}
use Prim.Native.Nat.{ℕ, zero, suc, ◌+◌, ◌-◌, ◌≤◌, ◌<◌}
use native.Mathlib.Nat.{add-zero, le_refl, suc-ne-zero}
use native.Mathlib.Decide.{ℕ_discrete}
use native.Mathlib.Omega.{arith}
use borrow.Author.Tests.{eq-eqb, ne_eqb}
use lib.ListN.{length, set, take, drop}
use Rattle.base.specs.Table.{tabulate}
use Rattle.base.proofs.Table.{tabulate_split}
use Rattle.base.proofs.Fill.{Filled, fill_none, fill_more, fill_part, fill_all}
use Rattle.verdict.specs.Summary.{mixed, joined, summary, WithSummary}

-- ---- what is known of `joined`: 0 adds nothing, two that agree give what they agree on, and two others give 4, to which nothing adds
pub joined_left : (b : ℕ) → joined 0 b ≡ b
unfolding joined
joined_left b = refl

pub joined_right : (a : ℕ) → joined a 0 ≡ a
unfolding joined
joined_right zero = refl
joined_right (suc a) = refl

pub joined_same : (a : ℕ) → joined a a ≡ a
unfolding joined
joined_same zero = refl
joined_same (suc a) = rw (eq-eqb (suc a) (suc a) refl)

pub joined_differ : (a b : ℕ) → a ≢ 0 → b ≢ 0 → a ≢ b → joined a b ≡ mixed
unfolding joined
joined_differ zero b ha hb n = absurd (ha refl)
joined_differ (suc a) zero ha hb n = absurd (hb refl)
joined_differ (suc a) (suc b) ha hb n = rw (ne_eqb (suc a) (suc b) n)

-- what it is, seen from the first
pub joined_over : (a b : ℕ) → (a ≡ 0) ⊎ (joined a b ≡ a) ⊎ (joined a b ≡ mixed)
joined_over a b = go (ℕ_discrete a 0) (ℕ_discrete b 0) (ℕ_discrete a b)
  where
    go : Dec (a ≡ 0) → Dec (b ≡ 0) → Dec (a ≡ b) → (a ≡ 0) ⊎ (joined a b ≡ a) ⊎ (joined a b ≡ mixed)
    go (yes e) db d = inl e
    go (no x) (yes e) d = inr (inl (rw e (joined_right a)))
    go (no x) (no y) (yes e) = inr (inl (rw (← e) (joined_same a)))
    go (no x) (no y) (no n) = inr (inr (joined_differ a b x y n))

pub joined_comm : (a b : ℕ) → joined a b ≡ joined b a
joined_comm a b = go (ℕ_discrete a 0) (ℕ_discrete b 0) (ℕ_discrete a b)
  where
    go : Dec (a ≡ 0) → Dec (b ≡ 0) → Dec (a ≡ b) → joined a b ≡ joined b a
    go (yes e) db d = simp (e, joined_left, joined_right)
    go (no x) (yes e) d = simp (e, joined_left, joined_right)
    go (no x) (no y) (yes e) = simp e
    go (no x) (no y) (no n) = joined_differ a b x y n ∙ sym (joined_differ b a y x (λ e. n (sym e)))

mixed_left : (b : ℕ) → joined mixed b ≡ mixed
mixed_left b = ⊎_elim (λ e. absurd (suc-ne-zero 3 e)) (⊎_elim (λ e. e) (λ e. e)) (joined_over mixed b)

pub mixed_right : (a : ℕ) → joined a mixed ≡ mixed
mixed_right a = joined_comm a mixed ∙ mixed_left a

joined_assoc : (a b c : ℕ) → joined (joined a b) c ≡ joined a (joined b c)
joined_assoc a b c = go (ℕ_discrete a 0) (ℕ_discrete b 0) (ℕ_discrete c 0) (ℕ_discrete a b) (ℕ_discrete b c)
  where
    go : Dec (a ≡ 0) → Dec (b ≡ 0) → Dec (c ≡ 0) → Dec (a ≡ b) → Dec (b ≡ c) → joined (joined a b) c ≡ joined a (joined b c)
    go (yes e) db dc d f = simp (e, joined_left)
    go (no x) (yes e) dc d f = simp (e, joined_left, joined_right)
    go (no x) (no y) (yes e) d f = simp (e, joined_right)
    go (no x) (no y) (no z) (yes e) (yes f) = simp (e, f, joined_same)
    go (no x) (no y) (no z) (yes e) (no n) = simp (e, joined_same, joined_differ b c y z n, mixed_right)
    go (no x) (no y) (no z) (no n) (yes f) = simp (← f, joined_same, joined_differ a b x y n, mixed_left)
    go (no x) (no y) (no z) (no n) (no m) = simp (joined_differ a b x y n, joined_differ b c y z m, mixed_left, mixed_right)

-- ---- the summary
pub summary_append : (a b : List ℕ) → summary (a ++ b) ≡ joined (summary a) (summary b)
unfolding summary
summary_append [] b = sym (joined_left (summary b))
summary_append (v ∷ a) b = ap (joined v) (summary_append a b) ∙ sym (joined_assoc v (summary a) (summary b))

pub summary_none : (f : ℕ → ℕ) → summary (tabulate 0 f) ≡ 0
unfolding tabulate summary
summary_none f = refl

summary_one : (f : ℕ → ℕ) → summary (tabulate 1 f) ≡ f 0
unfolding tabulate summary
summary_one f = joined_right (f 0)

pub summary_zeros : (k : ℕ) → summary (tabulate k (λ j. 0)) ≡ 0
unfolding tabulate summary
summary_zeros zero = refl
summary_zeros (suc k) = joined_left (summary (tabulate k (λ j. 0))) ∙ summary_zeros k

-- the places below i hold f, and found is their summary
pub record FilledWithSummary (f : ℕ → ℕ) (n : ℕ) (s t : List ℕ) (i found : ℕ) : Type 0 where
  pub filled : Filled (λ j v. f j) n s t i
  pub summarized : found ≡ summary (tabulate i f)

summary_split : (a b : ℕ) (f : ℕ → ℕ) → summary (tabulate (a + b) f) ≡ joined (summary (tabulate a f)) (summary (tabulate b (λ j. f (a + j))))
summary_split a b f = ap summary (tabulate_split a b f) ∙ summary_append (tabulate a f) (tabulate b (λ j. f (a + j)))

-- k columns from i on, of which those below c were summarized already
pub summary_again : (f : ℕ → ℕ) (i k c : ℕ) {found v r : ℕ} → i ≤ c → c ≤ i + k → found ≡ summary (tabulate c f) → v ≡ summary (tabulate k (λ j. f (i + j))) → r ≡ joined found v
    → r ≡ summary (tabulate (i + k) f)
summary_again f i k c begins reaches before after step =
    let here : ℕ → ℕ = λ j. f (i + j) in
    let low = summary (tabulate i f) in
    let again = summary (tabulate (c - i) here) in
    let new = summary (tabulate (i + k - c) (λ j. here (c - i + j))) in
    let both : summary (tabulate k here) ≡ joined again new = ap (λ (m : ℕ). summary (tabulate m here)) (omega arith) ∙ summary_split (c - i) (i + k - c) here in
    step
    ∙ ap₂ joined (before ∙ ap (λ (m : ℕ). summary (tabulate m f)) (omega arith) ∙ summary_split i (c - i) f) (after ∙ both)
    ∙ joined_assoc low again (joined again new)
    ∙ ap (joined low) (sym (joined_assoc again again new) ∙ ap (λ (m : ℕ). joined m new) (joined_same again) ∙ sym both)
    ∙ sym (summary_split i k f)

-- one stretch more
summary_more : (f : ℕ → ℕ) (i k : ℕ) {found v r : ℕ} → found ≡ summary (tabulate i f) → v ≡ summary (tabulate k (λ j. f (i + j))) → r ≡ joined found v
    → r ≡ summary (tabulate (i + k) f)
summary_more f i k before after step = summary_again f i k i (le_refl i) (omega arith) before after step

module _ {f : ℕ → ℕ} {n : ℕ} {s : List ℕ} where
  pub summary_filled_none : length s ≡ n → FilledWithSummary f n s s 0 0
  summary_filled_none len = record { filled = fill_none len; summarized = sym (summary_none f) }

  pub summary_filled_more : {t : List ℕ} {i found v r : ℕ} → FilledWithSummary f n s t i found → i < n → v ≡ f i → r ≡ joined found v
      → FilledWithSummary f n s (set t i v) (i + 1) r
  summary_filled_more {i = i} fill h e step =
      record {
        filled = fill_more fill.filled h e;
        summarized = summary_more f i 1 fill.summarized (e ∙ sym (rw (summary_one, add-zero))) step;
      }

  pub summary_filled_part : {t m rest : List ℕ} {i found v r : ℕ} (k : ℕ) → FilledWithSummary f n s t i found → i + k ≤ n
      → WithSummary (tabulate k (λ j. f (i + j))) v m
      → rest ≡ drop (i + k) t
      → r ≡ joined found v
      → FilledWithSummary f n s (take i t ++ (m ++ rest)) (i + k) r
  summary_filled_part {i = i} k fill h part after step =
      record { filled = fill_part k fill.filled h part.room after; summarized = summary_more f i k fill.summarized part.result step }

  pub summary_filled_all : {t : List ℕ} {i found : ℕ} → FilledWithSummary f n s t i found → i ≡ n → WithSummary (tabulate n f) found t
  summary_filled_all fill all =
      record { result = fill.summarized ∙ ap (λ (k : ℕ). summary (tabulate k f)) all; room = fill_all fill.filled (omega arith) }

-- the same list said otherwise
pub summary_as : {vs ws after : List ℕ} {r : ℕ} → vs ≡ ws → WithSummary vs r after → WithSummary ws r after
summary_as {after = after} {r = r} same told = subst (λ (l : List ℕ). WithSummary l r after) same told
