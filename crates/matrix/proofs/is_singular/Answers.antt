-- `matrix::is_singular` meets its contract: some vector but zero maps to zero.
use mathlib.Core.Path.{refl, ◌∙◌}
use borrow.Author.Tests.{tests}
use borrow.Author.Rules.{rules}
use lib.Dec.{eqb}
use Rattle.std.proofs.lemmas.Iterator.{YieldsList-from_range}
use Rattle.std.proofs.lemmas.Iterator.Search.{any_from_yields_List}
use Rattle.matrix.specs.Matrix.{apply}
use Rattle.matrix.proofs.Invertible.{singular_any}
use Rattle.matrix.proofs.is_singular.Goals as goal

pub returns : goal.returns
returns c =
    any_from_yields_List (λ v. eqb (apply c.args.m v) 0) _ _ _ c.any.ensures.ran (YieldsList-from_range 1 256 255 refl refl)
    (λ x b q k. search (rules, tests))
    ∙ singular_any c.args.m
