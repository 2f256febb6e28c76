-- `matrix::weight_of` meets its contract: the ones of a row are at most 8, so the sum fits.
use mathlib.Core.Path.{◌≡◌, ◌∙◌}
use Prim.Native.Nat.{◌^◌}
use native.Mathlib.Omega.{arith}
use borrow.Author.Rules.{rules}
use lib.Count
use Rattle.std.specs.List.{sum_by}
use Rattle.std.proofs.iter.runs.Made.{chains}
use Rattle.std.proofs.lemmas.Iterator.{YieldsList-from_slice, YieldsList-from_map}
use Rattle.std.proofs.lemmas.Iterator.Consumers.{fits_by_from_yields_list}
use Rattle.matrix.proofs.Weight.{weight_elements, weight_le}
use Rattle.matrix.proofs.weight_of.Goals as goal

pub sum-requires-clause-fits : goal.sum-requires-clause-fits
sum-requires-clause-fits c =
    fits_by_from_yields_list Count.ones c.args.m _ (2 ^ 64)
    (YieldsList-from_map _ Count.ones (YieldsList-from_slice c.args.m cc) c.map.ensures.closure (λ x r q k. search rules))
    (omega (arith, weight_elements c.args.m (cc) (λ r. search rules), weight_le c.args.m))

pub returns : goal.returns
returns c =
    let total : c.sum.result ≡ sum_by Count.ones c.args.m = search (rules, chains) in
    total ∙ weight_elements c.args.m (cc) (λ r. search rules)
