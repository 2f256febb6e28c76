-- What a plan makes of a stripe, for any numbers.
use Rattle.std.specs.Prelude.{ℕ, ◌+◌, Bool, true, List, eqb, ltb, length}
use Rattle.base.specs.Choice.{choose, both}
use Rattle.chunk.specs.Chunk.{Holds}
use Rattle.chunk.specs.declared.Sums.{Sums}
use Rattle.column.specs.Column.{syndrome_p, syndrome_q, reed_solomon}
use Rattle.losses.specs.declared.Pair.{Pair}
use Rattle.losses.specs.declared.Plan.{Plan}
use Rattle.losses.specs.declared.Plan.TheVariants.{ByP, FromData, ByBoth}
use Rattle.losses.specs.Losses.{without, restored_by}
use Rattle.shape.specs.declared.Geometry.{Geometry}
use Rattle.shape.specs.Layout.{column, lift}
use Rattle.shape.specs.Refusals.{encode_refusal}

-- a stripe with n data disks has the roles of a plan
abbrev pub known_plan : ℕ → Plan → Bool
known_plan n (ByP x) = ltb x (n + 2)
known_plan n (FromData with_p) = true
known_plan n (ByBoth pair rule) = both (ltb pair.x (n + 2)) (ltb pair.y (n + 2))

-- every column restored; the buffer as it was where it is no stripe, or not one that has these roles
abbrev pub restored : Geometry → Plan → List ℕ → List ℕ
restored g plan s =
    choose (both (eqb (encode_refusal g (length s)) 0) (known_plan g.n plan)) (lift g (λ i c. restored_by g.n plan c) s) s

-- the sums are P* and Q* of w columns without two roles: what private functions suppose; no public contract rests on it
pub record Survivors (g : Geometry) (s : List ℕ) (i w : ℕ) (pair : Pair) (sums : Sums) : Type 0 where
  pub first : Holds w (λ j. syndrome_p g.n (without pair.x pair.y (column g s (i + j)))) sums.p
  pub second : Holds w (λ j. syndrome_q reed_solomon g.n (without pair.x pair.y (column g s (i + j)))) sums.q
