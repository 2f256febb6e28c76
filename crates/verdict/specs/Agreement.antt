-- What the verdicts on a stretch of columns may have in common.
use Rattle.std.specs.Prelude.{ℕ, ◌<◌, ◌≡◌, ◌≢◌, ◌⊎◌, List, length, get_or}

-- every column's verdict is 0 or v
abbrev pub CleanOr : ℕ → List ℕ → Type 0
CleanOr v vs = (i : ℕ) → i < length vs → (get_or vs i 0 ≡ 0) ⊎ (get_or vs i 0 ≡ v)

-- some column's verdict is v, and every other column's is 0 or v
pub record Agree (v : ℕ) (vs : List ℕ) : Type 0 where
  pub at : ℕ
  pub within : at < length vs
  pub has : get_or vs at 0 ≡ v
  pub others : CleanOr v vs

-- two columns have different verdicts other than 0
pub record Differ (vs : List ℕ) : Type 0 where
  pub one : ℕ
  pub other : ℕ
  pub one_within : one < length vs
  pub other_within : other < length vs
  pub one_unclean : get_or vs one 0 ≢ 0
  pub other_unclean : get_or vs other 0 ≢ 0
  pub different : get_or vs one 0 ≢ get_or vs other 0
