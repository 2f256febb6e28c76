-- A code is found fit exactly where its matrices are a cone (000, definition 3.1.1): the search finds nothing exactly where each of its tests passes.
-- Assumes nothing.
use mathlib.Core.Path.{◌≡◌, refl, ap₂, subst}
use mathlib.Core.Logic.{◌↔◌}
use Prim.Native.Nat.{ℕ}
use native.Mathlib.Omega.{arith}
use Rattle.findings.specs.Findings.{Code, finding}
use Rattle.findings.specs.Cone.{Cone, Reports}
use Rattle.std.specs.Prelude.{None}
use Rattle.std.specs.Option.{option_or}
use Rattle.matrix.proofs.Fold.{fold_none}
use Rattle.findings.proofs.Reports.{passes, pair_passes, reported}

fit→cone : (code : Code) (count : ℕ) → finding code count ≡ None → Cone code count
fit→cone code count e = subst (Reports code count) e (reported code count)

cone→fit : (code : Code) (count : ℕ) → Cone code count → finding code count ≡ None
unfolding finding
cone→fit code count h =
    ap₂ option_or
    (fold_none option_or None refl count _ (λ i l. passes code i (h.each i l)))
    (fold_none option_or None refl count _
    (λ i li. fold_none option_or None refl count _ (λ j lj. pair_passes code i j (λ l. h.sums i j li lj (λ e. omega arith)))))

pub fit_cone : (code : Code) (count : ℕ) → (finding code count ≡ None) ↔ Cone code count
fit_cone code count = (fit→cone code count, cone→fit code count)
