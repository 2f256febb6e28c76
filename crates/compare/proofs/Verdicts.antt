-- The verdicts that the sums without a role that no stripe has give are those on the columns.
-- Assumes nothing.
use mathlib.Core.Path.{◌≡◌, ap, ap₂, ◌∙◌}
use mathlib.Core.List.{List}
use Prim.Native.Nat.{ℕ, ◌+◌, ◌≤◌}
use Rattle.base.proofs.Table.{tabulate_same}
use Rattle.column.specs.Column.{Column, syndrome_p, syndrome_q, reed_solomon, verdict_of}
use Rattle.losses.specs.Losses.{without}
use Rattle.losses.proofs.Without.{none_lost}
use Rattle.shape.specs.declared.Geometry.{Geometry}
use Rattle.shape.specs.Layout.{column}
use Rattle.shape.specs.Refusals.{WellShaped}
use Rattle.stretch.specs.Stretch.{Has, column_of}
use Rattle.stretch.proofs.Laws.{seen}
use Rattle.chunk.specs.Chunk.{width}
use Rattle.chunk.specs.declared.Sums.{Sums}
use Rattle.sums.specs.Sums.{sums_of}
use Rattle.verdict.specs.Verdicts.{verdicts_of}
use Rattle.compare.specs.Compare.{verdicts_from}

pub verdicts_summed : {g : Geometry} {s : List ℕ} {r : Sums} (i k : ℕ) → WellShaped g s → (i + k ≤ g.b) × (k ≤ width) → r ≡ sums_of g.n (λ j. without (g.n + 2) (g.n + 2) (column_of g s i k j))
    → verdicts_of g.n r.p r.q k ≡ verdicts_from g s i k
verdicts_summed {g} {s} i k shaped fits sums =
    let n = g.n in
    let e : ℕ → Column = λ j. column g s (i + j) in
    let h : Has g s i k = record { shaped = shaped; fits = fits.0; held = fits.1 } in
    tabulate_same k
    (λ j l. ap₂ (verdict_of n) (seen h (λ c. syndrome_p n (without (n + 2) (n + 2) c)) (ap (λ (r : Sums). r.p) sums) j l ∙ (none_lost n (e j)).0) (seen h (λ c. syndrome_q reed_solomon n (without (n + 2) (n + 2) c)) (ap (λ (r : Sums). r.q) sums) j l ∙ (none_lost n (e j)).1))
