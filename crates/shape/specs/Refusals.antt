-- The refusals of the calls that name no loss: each number with its test, and each call's order. They depend on numbers and lengths alone.
use Rattle.std.specs.Prelude.{◌≡◌, ℕ, ◌-◌, ◌<◌, ◌≤◌, not, List, [], ◌∷◌, length, ◌==◌, nat_le, nat_lt}
use Rattle.base.specs.Choice.{either}
use Rattle.base.specs.Refusal.{Refusal, first_of}
use Rattle.shape.specs.declared.Geometry.{Geometry}
use Rattle.shape.specs.declared.Limits.{Limits}
use Rattle.shape.specs.Layout.{size}

-- the limits of the library's calls: 1 to 255 data disks, blocks of 1 to 65,536 bytes
abbrev pub library : Limits
library = record { n = 255; b = 65536 }

-- n is 0 or above its limit
abbrev pub refusal1 : Limits → Geometry → Refusal
refusal1 limits g = record { number = 1; applies = either (g.n == 0) (nat_lt limits.n g.n) }

-- B is 0 or above its limit
abbrev pub refusal2 : Limits → Geometry → Refusal
refusal2 limits g = record { number = 2; applies = either (g.b == 0) (nat_lt limits.b g.b) }

-- the buffer's length isn't (n+2)·B
abbrev pub refusal3 : Geometry → ℕ → Refusal
refusal3 g len = record { number = 3; applies = not (len == size g) }

-- a data disk number is n or more
abbrev pub refusal4 : Geometry → ℕ → Refusal
refusal4 g disk = record { number = 4; applies = nat_le g.n disk }

-- no new bytes, offset above B, or new bytes longer than B − offset
abbrev pub refusal6 : Geometry → ℕ → ℕ → Refusal
refusal6 g offset count = record { number = 6; applies = either (count == 0) (either (nat_lt g.b offset) (nat_lt (g.b - offset) count)) }

-- the verdict buffer isn't B long
abbrev pub refusal7 : Geometry → ℕ → Refusal
refusal7 g room = record { number = 7; applies = not (room == g.b) }

-- ---- stretches that several orders share
abbrev pub limits_refusals : Limits → Geometry → List Refusal
limits_refusals limits g = refusal1 limits g ∷ refusal2 limits g ∷ []

abbrev pub shape_refusals : Limits → Geometry → ℕ → List Refusal
shape_refusals limits g len = refusal1 limits g ∷ refusal2 limits g ∷ refusal3 g len ∷ []

abbrev pub stretch_refusals : Geometry → ℕ → ℕ → ℕ → List Refusal
stretch_refusals g disk offset count = refusal4 g disk ∷ refusal6 g offset count ∷ []

-- ---- the calls' orders
abbrev pub encode_refusal : Geometry → ℕ → ℕ
encode_refusal g len = first_of (refusal1 library g ∷ refusal2 library g ∷ refusal3 g len ∷ [])

abbrev pub write_refusal : Geometry → ℕ → ℕ → ℕ → ℕ → ℕ
write_refusal g len disk offset count =
    first_of (refusal1 library g ∷ refusal2 library g ∷ refusal3 g len ∷ refusal4 g disk ∷ refusal6 g offset count ∷ [])

abbrev pub check_refusal : Geometry → ℕ → ℕ → ℕ
check_refusal g len room = first_of (refusal1 library g ∷ refusal2 library g ∷ refusal3 g len ∷ refusal7 g room ∷ [])

-- ---- a stripe that meets what refusals 1 to 3 ask
pub record WellShaped (g : Geometry) (s : List ℕ) : Type 0 where
  pub disks : g.n ≤ library.n
  pub block : g.b ≤ library.b
  pub some : 0 < g.b
  pub disk : 0 < g.n
  pub whole : length s ≡ size g
