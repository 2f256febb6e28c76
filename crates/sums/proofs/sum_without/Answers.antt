-- `sums::sum_without` meets its contract.
use mathlib.Core.Path.{◌≡◌, sym, ap, ap₂, ◌∙◌}
use mathlib.Core.Logic.{◌≢◌}
use mathlib.Core.List.{List}
use Prim.Native.Nat.{ℕ, ◌+◌}
use native.Mathlib.Numerals.{add-one}
use native.Mathlib.Omega.{arith}
use lib.ListN.{get_or}
use Rattle.base.proofs.Table.{tabulate_same}
use Rattle.gf256.specs.Field.{sum}
use Rattle.gf256.proofs.Laws.{sum_zero}
use Rattle.chunk.specs.Chunk.{width, each, plus}
use Rattle.chunk.proofs.Laws.{each_at}
use Rattle.column.specs.Column.{Column, put, total}
use Rattle.column.proofs.Put.{put_same, put_other}
use Rattle.stretch.specs.Stretch.{column_of}
use Rattle.stretch.proofs.Laws.{zeros}
use Rattle.sums.proofs.Zeros.{no_sum}
use Rattle.sums.proofs.sum_without.Goals as goal

-- one more role, and the role that is left out
module _ (x k : ℕ) (f : ℕ → Column) {p : List ℕ} (is : p ≡ each (λ j. total k (put x 0 (f j)))) where
  added : k ≢ x → plus p (each (λ j. f j k)) ≡ each (λ j. total (k + 1) (put x 0 (f j)))
  unfolding total
  added other =
      tabulate_same width
      (λ j h.
      ap₂ sum (ap (λ (l : List ℕ). get_or l j 0) is ∙ each_at _ j h) (each_at _ j h ∙ sym (put_other x 0 (f j) k other))
      ∙ sym (rw (add-one k)))

  left_out : k ≡ x → p ≡ each (λ j. total (k + 1) (put x 0 (f j)))
  unfolding total
  left_out same =
      is
      ∙ tabulate_same width
      (λ j h. sym (ap (sum (total k (put x 0 (f j)))) (ap (put x 0 (f j)) same ∙ put_same x 0 (f j)) ∙ sum_zero _) ∙ sym (rw (add-one k)))

pub returns-then-not-is_in : goal.returns-then-not-is_in
returns-then-not-is_in c = let a = c.args in no_sum a.at.g a.stripe.now a.at.i a.at.w (sym c.is_in.ensures ∙ c.if-not-is_in.true) a.at.g.n a.x

pub loop-k-init : goal.loop-k-init
unfolding total
loop-k-init c = zeros

pub loop-k-preserved : goal.loop-k-preserved
loop-k-preserved c =
    let a = c.args in
    let l = c.loop-k in
    let e = column_of a.at.g a.stripe.now a.at.i a.at.w in
    grind (arith, added a.x l.k e l.invariant, left_out a.x l.k e l.invariant)
