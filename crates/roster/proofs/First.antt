-- The first line of a text is what stands before its first line feed, and the other lines are those of what stands after it. By induction on the text.
-- Assumes nothing.
use mathlib.Core.Path.{◌≡◌, refl, ap, ◌∙◌}
use mathlib.Core.Bool.{Bool, true, false, not, cond}
use mathlib.Core.List.{List, [], ◌∷◌}
use Prim.Native.Nat.{ℕ, suc, ◌<◌}
use native.Mathlib.Nat.{not-suc-le-zero}
use native.Mathlib.Omega.{arith}
use Rattle.std.proofs.Common.{one-add}
use borrow.Author.Tests.{lt-ltb}
use lib.Dec.{eqb, ltb, leb-suc-suc}
use lib.ListN.{length, take, drop}
use Rattle.base.specs.Choice.{choose}
use Rattle.lines.specs.Lines.{Line, line_feed, begun, lines}
use Rattle.roster.specs.Text.{index_of}

abbrev first_line : List ℕ → ℕ → List Line
first_line t i = record { serial = take i t; ended = ltb i (length t) } ∷ lines (drop (suc i) t)

pub first_line_lem : (t : List ℕ) → 0 < length t → lines t ≡ first_line t (index_of line_feed t)
unfolding lines
first_line_lem [] h = absurd (not-suc-le-zero h)
first_line_lem (c ∷ t) h = simp one-add (go (eqb c line_feed) t (first_line_lem t))
  where
    go : (b : Bool) (t : List ℕ) → (0 < length t → lines t ≡ first_line t (index_of line_feed t))
        → choose b (record { serial = []; ended = true } ∷ lines t) (begun c (lines t)) ≡ first_line (c ∷ t) (cond (not b) (suc (index_of line_feed t)) 0)
    go true t rest = simp (lt-ltb 0 (suc (length t)) (omega arith))
    go false [] rest = refl
    go false (d ∷ t) rest = ap (begun c) (rest (omega arith)) ∙ simp leb-suc-suc
