-- The look-up of a serial: the lowest slot whose serial has the asked length and the same byte at every place.
use Rattle.std.specs.Prelude.{ℕ, suc, Bool, true, false, Option, Some, None, List, [], ◌∷◌, eqb}
use Rattle.base.specs.Choice.{choose, both}

-- as long, and the same byte at every place
abbrev pub alike : List ℕ → List ℕ → Bool
alike [] [] = true
alike [] (b ∷ t) = false
alike (a ∷ s) [] = false
alike (a ∷ s) (b ∷ t) = both (eqb a b) (alike s t)

-- where the first serial is that of slot k
unfoldable pub look_up_from : ℕ → List (List ℕ) → List ℕ → Option ℕ
look_up_from k [] asked = None
look_up_from k (s ∷ ss) asked = choose (alike s asked) (Some k) (look_up_from (suc k) ss asked)

abbrev pub look_up : List (List ℕ) → List ℕ → Option ℕ
look_up ss asked = look_up_from 0 ss asked
