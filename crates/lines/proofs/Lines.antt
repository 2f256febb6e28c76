-- The laws of lines: the test for bad characters in the library's word; and the first line of a text, by the bytes that begin it.
-- Assumes nothing.
use mathlib.Core.Path.{◌≡◌, refl, ap}
use mathlib.Core.Bool.{true, false, not}
use mathlib.Core.List.{List, [], ◌∷◌, ◌++◌}
use Prim.Native.Nat.{ℕ}
use lib.Dec.{eqb}
use Rattle.std.specs.List.{list_any}
use Rattle.base.specs.Choice.{either}
use Rattle.lines.specs.Lines.{line_feed, lines, is_character, has_bad}

-- ---- a bad character, in the library's word
pub any_bad : (s : List ℕ) → list_any (λ c. not (is_character c)) s ≡ has_bad s
any_bad [] = refl
any_bad (c ∷ s) = ap (either (not (is_character c))) (any_bad s)

-- ---- the first line of a text, by the bytes that begin it, none of them a line feed
abbrev pub Unfed : List ℕ → Type 0
Unfed [] = Unit {0}
Unfed (c ∷ s) = (eqb c line_feed ≡ false) × Unfed s

pub unfed_more : (s : List ℕ) (c : ℕ) → Unfed s → eqb c line_feed ≡ false → Unfed (s ++ (c ∷ []))
unfed_more [] c h e = (e, tt)
unfed_more (d ∷ s) c h e = (h.0, unfed_more s c h.1 e)

pub line_ends_lem : (s t : List ℕ) → Unfed s → lines (s ++ (line_feed ∷ t)) ≡ record { serial = s; ended = true } ∷ lines t
unfolding lines
line_ends_lem [] t h = refl
line_ends_lem (c ∷ s) t h = rw (h.0, line_ends_lem s t h.1)

pub line_stays : (c : ℕ) (s : List ℕ) → Unfed (c ∷ s) → lines (c ∷ s) ≡ record { serial = c ∷ s; ended = false } ∷ []
unfolding lines
line_stays c [] h = rw h.0
line_stays c (d ∷ s) h = rw (h.0, line_stays d s h.1)
