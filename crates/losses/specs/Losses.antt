-- What a plan does to a column: take the lost roles as 00, take P* and Q* of that column, and solve them for the lost bytes by a rule; parities
-- alone are recomputed. Equations are numbered as in the paper.
use Rattle.std.specs.Prelude.{ℕ, ◌+◌, ◌<◌, Bool, true, false, eqb, get_or}
use Rattle.base.specs.Choice.{either}
use Rattle.gf256.specs.Field.{sum, product}
use Rattle.column.specs.Column.{Column, TwoBytes, put, total, parity_q, syndrome_p, syndrome_q, encode_column, reed_solomon}
use Rattle.chunk.specs.Chunk.{each}
use Rattle.chunk.specs.declared.Sums.{Sums}
use Rattle.losses.specs.declared.Pair.{Pair}
use Rattle.losses.specs.declared.Rule.{Rule}
use Rattle.losses.specs.declared.Rule.TheVariants.{Mixed, Carried}
use Rattle.losses.specs.declared.Plan.{Plan}
use Rattle.losses.specs.declared.Plan.TheVariants.{ByP, FromData, ByBoth}
use Rattle.losses.specs.declared.Restored.{Restored}

-- the lost bytes, from P* and Q* of the column without them
abbrev pub solution : Rule → ℕ → ℕ → TwoBytes
solution (Mixed a b) p q =
    record { first = sum (product a.0 p) (product b.0 q); second = sum p (sum (product a.0 p) (product b.0 q)) }
solution (Carried c) p q = record { first = p; second = sum q (product c.0 p) }

-- the same at every place of a chunk
abbrev pub solutions : Rule → Sums → Restored
solutions rule s =
    record {
      first = each (λ j. (solution rule (get_or s.p j 0) (get_or s.q j 0)).first);
      second = each (λ j. (solution rule (get_or s.p j 0) (get_or s.q j 0)).second);
    }

-- a role is one of two
abbrev pub is_one_of : Pair → ℕ → Bool
is_one_of pair role = either (eqb role pair.x) (eqb role pair.y)

-- what stood on the roles x and y taken as 00
abbrev pub without : ℕ → ℕ → Column → Column
without x y c = put x 0 (put y 0 c)

-- the byte of role x by equation 1: the sum of the data and P
abbrev pub by_p : ℕ → ℕ → Column → ℕ
by_p n x c = total (n + 1) (put x 0 c)

unfoldable pub solved : ℕ → ℕ → ℕ → Rule → Column → Column
solved n x y rule c =
    let bytes = solution rule (syndrome_p n (without x y c)) (syndrome_q reed_solomon n (without x y c)) in
    put x bytes.first (put y bytes.second c)

abbrev pub restored_by : ℕ → Plan → Column → Column
restored_by n (ByP x) c = put x (by_p n x c) c
restored_by n (FromData true) c = encode_column reed_solomon n c
restored_by n (FromData false) c = put (n + 1) (parity_q reed_solomon n c) c
restored_by n (ByBoth pair rule) c = solved n pair.x pair.y rule c

-- both are roles of a stripe with n data disks
abbrev pub KnownPair : ℕ → Pair → Type 0
KnownPair n pair = (pair.x < n + 2) × (pair.y < n + 2)

-- so are those of a plan
abbrev pub KnownPlan : ℕ → Plan → Type 0
KnownPlan n (ByP x) = x < n + 2
KnownPlan n (FromData with_p) = Unit {0}
KnownPlan n (ByBoth pair rule) = KnownPair n pair
