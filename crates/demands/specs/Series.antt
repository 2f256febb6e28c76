-- The series of demand 3, for any layout and code: its members, the plain table, the last value accepted for a byte, and the claim.
use Rattle.std.specs.Prelude.{◌≡◌, ◌⊎◌, List, [], ◌∷◌, ◌++◌, ℕ, ◌+◌, ◌<◌, length, get_or}
use Rattle.gf256.specs.Field.{sum}
use Rattle.column.specs.Column.{Code, parity_p, parity_q, syndrome_p, syndrome_q, Encoded}
use Rattle.demands.specs.Layout.{Layout, block_of, column_of}

-- every number of a list is a byte
abbrev pub Bytes : List ℕ → Type 0
Bytes s = (j : ℕ) → get_or s j 0 < 256

-- both equations hold in every column
abbrev pub EncodedStripe : Layout → Code → List ℕ → Type 0
EncodedStripe L code s = (i : ℕ) → i < L.columns → Encoded code L.disks (column_of L s i)

-- the value that was given to a byte, if one was
pub data Latest : Type 0 where
  none : Latest
  given : ℕ → Latest

abbrev pub value_or : ℕ → Latest → ℕ
value_or v none = v
value_or v (given u) = u

abbrev pub later : Latest → Latest → Latest
later earlier none = earlier
later earlier (given v) = given v

-- A member of a series: what it makes of the stripe, and the value, if any, that it gives to position p of data disk k: `gives k p`.
pub record Member : Type 0 where
  pub runs : List ℕ → List ℕ
  pub gives : ℕ → ℕ → Latest

-- each member gets the stripe as the last one left it
abbrev pub run : List Member → List ℕ → List ℕ
run [] s = s
run (m ∷ ms) s = run ms (m.runs s)

abbrev pub All : (Member → Type 0) → List Member → Type 0
All Holds [] = Unit {0}
All Holds (m ∷ ms) = Holds m × All Holds ms

-- The plain table: a byte for each position of each data disk. It starts as the stripe's data, and is fed what the members give alone.
abbrev pub Table : Type 0
Table = ℕ → ℕ → ℕ

abbrev pub feed : Member → Table → Table
feed m t k p = value_or (t k p) (m.gives k p)

abbrev pub feed_all : List Member → Table → Table
feed_all [] t = t
feed_all (m ∷ ms) t = feed_all ms (feed m t)

abbrev pub table_after : Layout → List Member → List ℕ → Table
table_after L ms s = feed_all ms (block_of L s)

-- the last value accepted for a byte: the one that the last member to give it one gave
abbrev pub latest : List Member → ℕ → ℕ → Latest
latest [] k p = none
latest (m ∷ ms) k p = later (m.gives k p) (latest ms k p)

-- The claim of demand 3 about a whole series from s, which ends with t: the data are the table's, and P and Q differ from the equations over
-- the table by what they differed at the start.
pub record Claim (L : Layout) (code : Code) (s : List ℕ) (ms : List Member) (t : List ℕ) : Type 0 where
  pub contents : (k p : ℕ) → k < L.disks → p < L.block → block_of L t k p ≡ table_after L ms s k p
  pub first : (i : ℕ) → i < L.columns
      → column_of L t i L.disks ≡ sum (parity_p L.disks (λ k. L.symbol (table_after L ms s k) i)) (syndrome_p L.disks (column_of L s i))
  pub second : (i : ℕ) → i < L.columns
      → column_of L t i (L.disks + 1)
      ≡ sum (parity_q code L.disks (λ k. L.symbol (table_after L ms s k) i)) (syndrome_q code L.disks (column_of L s i))

-- no data byte is given a value by both
abbrev pub Apart : Member → Member → Type 0
Apart a b = (k p : ℕ) → (a.gives k p ≡ none) ⊎ (b.gives k p ≡ none)

-- no data byte is given a value
abbrev pub GivesNothing : Member → Type 0
GivesNothing m = (k p : ℕ) → m.gives k p ≡ none

-- the second series is the first without some of the members that give nothing
pub data Without : List Member → List Member → Type 0 where
  end : Without [] []
  keep : (m : Member) {ms ns : List Member} → Without ms ns → Without (m ∷ ms) (m ∷ ns)
  drop : {m : Member} {ms ns : List Member} → GivesNothing m → Without ms ns → Without (m ∷ ms) ns

-- What demand 3 says of every series from the stripe s whose members are all allowed: the claim, and what follows from it.
pub record EverySeries (L : Layout) (code : Code) (s : List ℕ) (Allowed : Member → Type 0) : Type 0 where
  pub claim : (ms : List Member) → All Allowed ms → Claim L code s ms (run ms s)
  -- each data byte is the last value accepted for it, or its first where there was none
  pub last_accepted : (ms : List Member) → All Allowed ms → (k p : ℕ) → k < L.disks → p < L.block
      → block_of L (run ms s) k p ≡ value_or (block_of L s k p) (latest ms k p)
  -- the stripe keeps its length and its bytes
  pub series_length : (ms : List Member) → All Allowed ms → length (run ms s) ≡ length s
  pub series_bytes : (ms : List Member) → All Allowed ms → Bytes (run ms s)
  -- an encoded start ends encoded
  pub ends_encoded : (ms : List Member) → All Allowed ms → EncodedStripe L code s → EncodedStripe L code (run ms s)
  -- two series with the same last values leave the stripe alike in every byte
  pub alike : (ms ns : List Member) → All Allowed ms → All Allowed ns
      → ((k p : ℕ) → k < L.disks → p < L.block → latest ms k p ≡ latest ns k p)
      → run ms s ≡ run ns s
  -- members that give nothing may be left out
  pub left_out : (ms ns : List Member) → Without ms ns → All Allowed ms → run ms s ≡ run ns s
  -- neighbours that share no byte may change places anywhere
  pub change_places : (before after : List Member) (a b : Member) → Apart a b → All Allowed (before ++ (a ∷ b ∷ after))
      → run (before ++ (a ∷ b ∷ after)) s ≡ run (before ++ (b ∷ a ∷ after)) s
