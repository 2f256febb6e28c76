-- A loop that fills a list from the front: the places below k are new, the others old. Five laws serve every such loop: none filled, one
-- place more, a part more, a part over some of them, and all, or up to where the rule changes nothing.
-- Assumes nothing.
use mathlib.Core.Path.{◌≡◌, refl, sym, ap, subst, ◌∙◌}
use mathlib.Core.Logic.{⊎_elim}
use mathlib.Core.List.{List, ◌++◌}
use Prim.Native.Nat.{ℕ, ◌+◌, ◌-◌, ◌≤◌, ◌<◌}
use native.Mathlib.Nat.{not-suc-le-zero, le_refl}
use native.Mathlib.Omega.{arith}
use borrow.Author.Count.{below_more}
use lib.ListN.{length, get_or, set, take, drop, length-set}
use lib.Seq.{get_or-set_same, get_or-set_other}
use Rattle.base.specs.Table.{tabulate, spliced}
use Rattle.base.proofs.Choice.{below_or_not}
use Rattle.base.proofs.Table.{length_tabulate, get_d_tabulate, is_tabulate}
use Rattle.base.proofs.Splice.{length_spliced, spliced_in, spliced_low, spliced_high}

-- t has n numbers, and is s with the places below k changed by f
pub record Filled (f : ℕ → ℕ → ℕ) (n : ℕ) (s t : List ℕ) (k : ℕ) : Type 0 where
  pub long : length t ≡ n
  pub new : (j : ℕ) → j < k → get_or t j 0 ≡ f j (get_or s j 0)
  pub old : (j : ℕ) → k ≤ j → get_or t j 0 ≡ get_or s j 0

module _ {f : ℕ → ℕ → ℕ} {n : ℕ} {s : List ℕ} where
  pub fill_none : length s ≡ n → Filled f n s s 0
  fill_none len = record { long = len; new = λ j p. absurd (not-suc-le-zero p); old = λ j p. refl }

  pub fill_more : {t : List ℕ} {k v : ℕ} → Filled f n s t k → k < n → v ≡ f k (get_or t k 0) → Filled f n s (set t k v) (k + 1)
  fill_more {t} {k} {v} fill h e =
      record {
        long = length-set t k v ∙ fill.long;
        new =
            below_more (λ j. get_or (set t k v) j 0 ≡ f j (get_or s j 0)) k
            (λ j p. get_or-set_other t k j v 0 (omega arith) ∙ fill.new j p)
            (get_or-set_same t k v 0 (omega arith) ∙ e ∙ ap (f k) (fill.old k (le_refl k)));
        old = λ j p. get_or-set_other t k j v 0 (omega arith) ∙ fill.old j (omega arith);
      }

  -- a part of which some places may be filled already
  pub fill_over : {t m rest : List ℕ} {c : ℕ} (i k : ℕ) → Filled f n s t c → i ≤ c → c ≤ i + k → i + k ≤ n → m ≡ tabulate k (λ j. f (i + j) (get_or s (i + j) 0))
      → rest ≡ drop (i + k) t
      → Filled f n s (take i t ++ (m ++ rest)) (i + k)
  fill_over {t} {m} {rest} {c} i k fill begins reaches h e after =
      subst (λ (l : List ℕ). Filled f n s (take i t ++ (m ++ l)) (i + k)) (ap (λ (a : ℕ). drop (i + a) t) size ∙ sym after)
      record {
        long = length_spliced t i m fits ∙ fill.long;
        new =
            λ j p.
            ⊎_elim (λ l. spliced_low t i m fits j l ∙ fill.new j (omega arith))
            (λ l.
            ap (λ (a : ℕ). get_or (spliced t i m) a 0) (omega arith)
            ∙ spliced_in t i m fits (j - i) (omega (arith, size))
            ∙ ap (λ (l : List ℕ). get_or l (j - i) 0) e
            ∙ get_d_tabulate k (λ j. f (i + j) (get_or s (i + j) 0)) (j - i) 0 (omega arith)
            ∙ ap (λ (a : ℕ). f a (get_or s a 0)) (omega arith))
            (below_or_not j i);
        old = λ j p. spliced_high t i m fits j (omega (arith, size)) ∙ fill.old j (omega arith);
      }
    where
      size : length m ≡ k
      size = ap length e ∙ length_tabulate k (λ j. f (i + j) (get_or s (i + j) 0))

      fits : i + length m ≤ length t
      fits = omega (arith, size, fill.long)

  pub fill_part : {t m rest : List ℕ} {i : ℕ} (k : ℕ) → Filled f n s t i → i + k ≤ n → m ≡ tabulate k (λ j. f (i + j) (get_or s (i + j) 0))
      → rest ≡ drop (i + k) t
      → Filled f n s (take i t ++ (m ++ rest)) (i + k)
  fill_part {i = i} k fill h e after = fill_over i k fill (le_refl i) (omega arith) h e after

  -- the rule changes nothing from k on
  pub fill_rest : {t : List ℕ} {k : ℕ} → Filled f n s t k → ((j : ℕ) → k ≤ j → j < n → f j (get_or s j 0) ≡ get_or s j 0) → t ≡ tabulate n (λ j. f j (get_or s j 0))
  fill_rest {t} {k} fill same =
      is_tabulate n (λ j. f j (get_or s j 0)) t fill.long
      (λ j p. ⊎_elim (λ l. fill.new j l) (λ l. fill.old j l ∙ sym (same j l p)) (below_or_not j k))

  pub fill_all : {t : List ℕ} {k : ℕ} → Filled f n s t k → n ≤ k → t ≡ tabulate n (λ j. f j (get_or s j 0))
  fill_all fill h = fill_rest fill (λ j p q. absurd (omega arith))
