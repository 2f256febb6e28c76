-- The summary of the verdicts on a stretch of columns (2026-01): 0 if all are clean, the common verdict if all unclean ones agree, and 4 otherwise.
use Rattle.std.specs.Prelude.{ℕ, zero, suc, ◌≡◌, List, [], ◌∷◌, eqb}
use Rattle.base.specs.Choice.{choose}

-- document 02's word for unclean columns that do not agree; no verdict on a column is 4
abbrev pub mixed : ℕ
mixed = 4

-- the summary of two stretches, one after the other, from their summaries: a clean one adds nothing
unfoldable pub joined : ℕ → ℕ → ℕ
joined zero next = next
joined (suc f) zero = suc f
joined (suc f) (suc n) = choose (eqb (suc f) (suc n)) (suc f) mixed

unfoldable pub summary : List ℕ → ℕ
summary [] = 0
summary (v ∷ vs) = joined v (summary vs)

-- a result r and a room left behind: the verdicts vs and their summary
pub record WithSummary (vs : List ℕ) (r : ℕ) (after : List ℕ) : Type 0 where
  pub result : r ≡ summary vs
  pub room : after ≡ vs
