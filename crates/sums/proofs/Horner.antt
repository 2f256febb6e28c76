-- Horner's rule (equation 21): the sums over the disks from k on, and one disk more below them, in a column and in a chunk.
-- Assumes nothing.
use mathlib.Core.Path.{◌≡◌, refl, sym, ap, ap₂, subst, ◌∙◌}
use mathlib.Core.List.{List}
use Prim.Native.Nat.{ℕ, suc, ◌+◌, ◌-◌, ◌≤◌, ◌<◌}
use native.Mathlib.Nat.{zero-add, add-zero, sub_self, sub-zero}
use native.Mathlib.Numerals.{add-one}
use native.Mathlib.Omega.{arith}
use lib.ListN.{get_or, replicate}
use Rattle.gf256.specs.Field.{sum, double, product, power}
use Rattle.gf256.proofs.Laws.{sum_comm, sum_zero, product_lt, product_right, product_assoc, product_one, product_zero, double_product}
use Rattle.base.proofs.Table.{tabulate_same}
use Rattle.chunk.specs.Chunk.{width, each, plus, double_plus}
use Rattle.chunk.proofs.Laws.{each_at}
use Rattle.column.specs.Column.{Column, total, parity_p, parity_q, reed_solomon}
use Rattle.column.proofs.Total.{total_same, total_map, total_front, total_lt}
use Rattle.stretch.proofs.Laws.{zeros}
use Rattle.chunk.specs.declared.Sums.{Sums}
use Rattle.sums.specs.Sums.{sums_of, tail_p, tail_q, Tails, StoredAdded}

-- a sum over the disks from k on, for any terms t j x
module _ (t : ℕ → ℕ → ℕ) (n : ℕ) (f : ℕ → ℕ) where
  abbrev tail : ℕ → ℕ
  tail k = total (n - k) (λ j. t j (f (k + j)))

  pub tail_none : tail n ≡ 0
  tail_none = ap (λ (m : ℕ). total m (λ j. t j (f (n + j)))) (sub_self n) ∙ unfold total in refl

  tail_all : tail 0 ≡ total n (λ j. t j (f j))
  tail_all =
      ap (λ (m : ℕ). total m (λ j. t j (f (0 + j)))) (sub-zero n) ∙ total_same n (λ j p. ap (λ (i : ℕ). t j (f i)) (zero-add j))

  -- the term of disk k apart
  tail_front : (k : ℕ) → suc k ≤ n → tail k ≡ sum (total (n - suc k) (λ j. t (suc j) (f (suc k + j)))) (t 0 (f k))
  tail_front k h =
      ap (λ (m : ℕ). total m (λ j. t j (f (k + j)))) (omega arith)
      ∙ total_front (n - suc k) (λ j. t j (f (k + j)))
      ∙ ap₂ sum (total_same (n - suc k) (λ j p. ap (λ (i : ℕ). t (suc j) (f i)) (omega arith))) (ap (λ (i : ℕ). t 0 (f i)) (add-zero k))

tail_p_more : (n k : ℕ) (f : ℕ → ℕ) → suc k ≤ n → tail_p n k f ≡ sum (tail_p n (suc k) f) (f k)
tail_p_more n k f h = tail_front (λ j x. x) n f k h

tail_q_more : (n k : ℕ) (f : ℕ → ℕ) → suc k ≤ n → f k < 256 → tail_q n k f ≡ sum (double (tail_q n (suc k) f)) (f k)
tail_q_more n k f h byte =
    tail_front (λ j x. product (power 2 j) x) n f k h
    ∙ ap₂ sum
    (total_same (n - suc k) (λ j p. ap (λ (y : ℕ). product y (f (suc k + j))) (step j) ∙ product_assoc 2 (power 2 j) (f (suc k + j)))
    ∙ sym (total_map (n - suc k) (product 2) (λ j. product (power 2 j) (f (suc k + j))) (product_zero 2) (product_right 2))
    ∙ sym (double_product (tail_q n (suc k) f) (total_lt (n - suc k) 8 (λ j. product (power 2 j) (f (suc k + j))) (λ j p. product_lt (power 2 j) (f (suc k + j))))))
    (ap (λ (y : ℕ). product y (f k)) start ∙ product_one (f k) byte)
  where
    step : (j : ℕ) → power 2 (suc j) ≡ product 2 (power 2 j)
    step j = unfold power in refl

    start : power 2 0 ≡ 1
    start = unfold power in refl

-- all disks: the right sides of the equations
pub tail_p_all : (n : ℕ) (f : ℕ → ℕ) → tail_p n 0 f ≡ parity_p n f
tail_p_all n f = tail_all (λ j x. x) n f

pub tail_q_all : (n : ℕ) (f : ℕ → ℕ) → tail_q n 0 f ≡ parity_q reed_solomon n f
unfolding reed_solomon
tail_q_all n f = tail_all (λ j x. product (power 2 j) x) n f

-- ---- the sums of a chunk
pub at : (v : ℕ → ℕ) {d : List ℕ} → d ≡ each v → (j : ℕ) → j < width → get_or d j 0 ≡ v j
at v is j l = ap (λ (d : List ℕ). get_or d j 0) is ∙ each_at v j l

abbrev pub two : List ℕ → List ℕ → Sums
two p q = record { p = p; q = q }

abbrev Byte : List ℕ → Type 0
Byte d = (j : ℕ) → get_or d j 0 < 256

module _ (n : ℕ) (f : ℕ → Column) where
  pub tails_none : Tails n n f (two (replicate width 0) (replicate width 0))
  tails_none =
      record {
        first = zeros ∙ tabulate_same width (λ j l. sym (tail_none (λ i x. x) n (f j)));
        second = zeros ∙ tabulate_same width (λ j l. sym (tail_none (λ i x. product (power 2 i) x) n (f j)));
      }

  -- one disk more
  pub tails_more : {k m : ℕ} {a b : Sums} (d : List ℕ) → m ≡ suc k → m ≤ n → Tails n m f a → d ≡ each (λ j. f j k) → Byte d → b.p ≡ plus a.p d → b.q ≡ double_plus a.q d
      → Tails n k f b
  tails_more {k} {m} d next h tails disk bytes is_p is_q =
      record {
        first = is_p
            ∙ tabulate_same width
            (λ j l.
            ap₂ sum (at _ tails.first j l ∙ ap (λ (m : ℕ). tail_p n m (f j)) next) (at _ disk j l) ∙ sym (tail_p_more n k (f j) (omega arith)));
        second = is_q
            ∙ tabulate_same width
            (λ j l.
            ap₂ sum (ap double (at _ tails.second j l ∙ ap (λ (m : ℕ). tail_q n m (f j)) next)) (at _ disk j l)
            ∙ sym (tail_q_more n k (f j) (omega arith) (subst (λ (x : ℕ). x < 256) (at _ disk j l) (bytes j))));
      }

  -- a disk that is 00
  pub tails_zero : {k : ℕ} {a : Sums} {q : List ℕ} → k < n → Tails n (k + 1) f a → ((j : ℕ) → j < width → f j k ≡ 0) → q ≡ each (λ j. double (get_or a.q j 0))
      → Tails n k f (two a.p q)
  tails_zero {k} h tails zero is =
      record {
        first = tails.first
            ∙ tabulate_same width
            (λ j l. ap (λ (m : ℕ). tail_p n m (f j)) (add-one k) ∙ sym (tail_p_more n k (f j) (omega arith) ∙ ap (sum (tail_p n (suc k) (f j))) (zero j l) ∙ sum_zero _));
        second = is
            ∙ tabulate_same width
            (λ j l.
            ap double (at _ tails.second j l ∙ ap (λ (m : ℕ). tail_q n m (f j)) (add-one k))
            ∙ sym (tail_q_more n k (f j) (omega arith) (rw (zero j l) (omega arith)) ∙ ap (sum (double (tail_q n (suc k) (f j)))) (zero j l) ∙ sum_zero _));
      }

  -- all disks, and P* and Q* with the stored parities
  pub tails_all : {a : Sums} → Tails n 0 f a → (a.p ≡ each (λ j. parity_p n (f j))) × (a.q ≡ each (λ j. parity_q reed_solomon n (f j)))
  tails_all tails = (tails.first ∙ tabulate_same width (λ j l. tail_p_all n (f j)), tails.second ∙ tabulate_same width (λ j l. tail_q_all n (f j)))

  pub tails_stored : {a b : Sums} → Tails n 0 f a → StoredAdded n f a b → b ≡ sums_of n f
  tails_stored tails stored =
      let sums = tails_all tails in
      ap₂ two
      (stored.0 ∙ tabulate_same width (λ j l. ap₂ sum (at _ sums.0 j l) (each_at _ j l) ∙ sum_comm (parity_p n (f j)) (f j n)))
      (stored.1 ∙ tabulate_same width (λ j l. ap₂ sum (at _ sums.1 j l) (each_at _ j l) ∙ sum_comm (parity_q reed_solomon n (f j)) (f j (n + 1))))
