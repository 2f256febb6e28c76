-- What a look-up's answer tells: where the asked serial stands first, or that no slot has it.
use Rattle.std.specs.Prelude.{ℕ, ◌<◌, ◌≡◌, ◌≢◌, Option, Some, None, List, [], length, get_or}

-- slot k has the asked serial, byte for byte, and no slot before it has
pub record Lowest (ss : List (List ℕ)) (asked : List ℕ) (k : ℕ) : Type 0 where
  pub there : k < length ss
  pub same : get_or ss k [] ≡ asked
  pub before : (j : ℕ) → j < k → get_or ss j [] ≢ asked

abbrev pub Tells : List (List ℕ) → List ℕ → Option ℕ → Type 0
Tells ss asked (Some k) = Lowest ss asked k
Tells ss asked None = (j : ℕ) → j < length ss → get_or ss j [] ≢ asked
