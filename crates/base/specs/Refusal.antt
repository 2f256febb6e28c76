-- A refusal is a number with its test. The order of a call is a list of them: the first that applies is given, and 0 is done. Then what a
-- call leaves in a buffer, and what its answer is in numbers.
use Rattle.std.specs.Prelude.{ℕ, zero, suc, Bool, List, [], ◌∷◌}
use Rattle.base.specs.Choice.{choose}

pub record Refusal : Type 0 where
  pub number : ℕ
  pub applies : Bool

-- the number of the first that applies, or 0
abbrev pub first_of : List Refusal → ℕ
first_of [] = 0
first_of (r ∷ rs) = choose r.applies r.number (first_of rs)

-- what is left in a buffer: `done` where the refusal is 0, else what it held
abbrev pub unless_refused : ℕ → List ℕ → List ℕ → List ℕ
unless_refused zero done before = done
unless_refused (suc k) done before = before

-- An answer in the paper's numbers: the result number, and the values that come with it.
pub record Answer : Type 0 where
  pub number : ℕ
  pub values : List ℕ

-- result 0 brings its values; a refusal brings its number and no other news
abbrev pub answered : ℕ → List ℕ → Answer
answered k values = record { number = k; values = unless_refused k values [] }
