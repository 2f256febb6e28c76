-- Columns without differences: where P* and Q* are 00 at every place of a chunk, every verdict is 0, and so is the summary.
-- Assumes nothing.
use mathlib.Core.Path.{◌≡◌, sym, ap, ◌∙◌}
use mathlib.Core.Bool.{true}
use mathlib.Core.List.{List}
use Prim.Native.Nat.{ℕ, ◌≤◌, ◌<◌}
use native.Mathlib.Omega.{arith}
use borrow.Author.Tests.{eqb-true, eq-eqb}
use lib.Bits.{bit_or}
use lib.Dec.{eqb}
use lib.ListN.{length, replicate}
use Rattle.std.proofs.lemmas.List.{get_or-replicate}
use Rattle.base.specs.Table.{tabulate}
use Rattle.base.proofs.Choice.{both_true}
use Rattle.base.proofs.Table.{is_tabulate, tabulate_same}
use Rattle.column.specs.Column.{verdict_of}
use Rattle.column.proofs.Verdicts.{row_clean}
use Rattle.chunk.specs.Chunk.{width, all_zero}
use Rattle.chunk.proofs.Laws.{or_zero, all_zero_at}
use Rattle.verdict.specs.Summary.{summary, WithSummary}
use Rattle.verdict.specs.Verdicts.{verdict_at, verdicts_of}
use Rattle.verdict.proofs.Summary.{summary_zeros}

-- the first row of the table, told by one test
pub clean_by_or : (n p q : ℕ) → bit_or p q ≡ 0 → verdict_of n p q ≡ 0
clean_by_or n p q e =
    let both = both_true (eqb q 0) (eqb p 0) (sym (or_zero p q) ∙ eq-eqb (bit_or p q) 0 e) in
    rw (eqb-true p 0 both.1, eqb-true q 0 both.0) (row_clean n)

clean : (n : ℕ) (p q : List ℕ) → all_zero p q ≡ true → (j : ℕ) → j < width → verdict_at n p q j ≡ 0
unfolding verdict_of
clean n p q zeros j h = let both = all_zero_at p q zeros j h in rw (both.0, both.1)

-- k of them, with k times 0 in their room
pub zeros_told : (n : ℕ) (p q : List ℕ) (k : ℕ) {after : List ℕ} → k ≤ width → all_zero p q ≡ true → length after ≡ k → after ≡ replicate k 0
    → WithSummary (verdicts_of n p q k) 0 after
zeros_told n p q k {after} fits zeros long filled =
    let same : verdicts_of n p q k ≡ tabulate k (λ j. 0) = tabulate_same k (λ j h. clean n p q zeros j (omega arith)) in
    let written = is_tabulate k (λ j. 0) after long (λ j h. rw filled (get_or-replicate k j 0 0 h)) in
    record { result = sym (ap summary same ∙ summary_zeros k); room = written ∙ sym same }
