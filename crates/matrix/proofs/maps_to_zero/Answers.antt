-- `matrix::maps_to_zero` meets its contract: the product is zero where each row shares an even number of ones with v.
use mathlib.Core.Path.{◌∙◌}
use Prim.Native.Nat.{◌%◌}
use borrow.Author.Tests.{tests}
use borrow.Author.Rules.{rules}
use lib.Bits.{bit_and}
use lib.Count
use lib.Dec.{eqb}
use Rattle.std.proofs.lemmas.Iterator.{YieldsList-from_slice}
use Rattle.std.proofs.lemmas.Iterator.Search.{all_from_yields_List}
use Rattle.matrix.proofs.Product.{zero_rows}
use Rattle.matrix.proofs.maps_to_zero.Goals as goal

pub returns : goal.returns
returns c =
    all_from_yields_List (λ row. eqb (Count.ones (bit_and row c.args.v) % 2) 0) _ _ _ c.all.ensures.ran (YieldsList-from_slice c.args.m cc)
    (λ x b q k. search (rules, tests))
    ∙ zero_rows c.args.m c.args.v (cc) c.ranges.v.fits
