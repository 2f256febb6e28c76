-- What a roster is, apart from any text.
use Rattle.std.specs.Prelude.{ℕ, ◌≤◌, ◌<◌, ◌≡◌, true, List, [], length, get_or}
use Rattle.lines.specs.Lines.{is_character}

pub record Serial (s : List ℕ) : Type 0 where
  pub some : 1 ≤ length s
  pub short : length s ≤ 20
  pub characters : (i : ℕ) → i < length s → is_character (get_or s i 0) ≡ true

-- at most 257 slots, each with a serial, and no serial in two of them
pub record Roster (ss : List (List ℕ)) : Type 0 where
  pub slots : length ss ≤ 257
  pub serial : (k : ℕ) → k < length ss → Serial (get_or ss k [])
  pub once : (j k : ℕ) → j < length ss → k < length ss → get_or ss j [] ≡ get_or ss k [] → j ≡ k
