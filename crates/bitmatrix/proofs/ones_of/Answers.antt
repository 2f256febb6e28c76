-- `bitmatrix::ones_of` meets its contract: the ones of a matrix are at most 64, so the sum fits.
use mathlib.Core.Path.{◌≡◌, ◌∙◌}
use Prim.Native.Nat.{◌^◌}
use native.Mathlib.Omega.{arith}
use borrow.Author.Rules.{rules}
use Rattle.std.specs.List.{sum_by}
use Rattle.std.proofs.iter.runs.Made.{chains}
use Rattle.std.proofs.lemmas.Iterator.{YieldsList-from_slice, YieldsList-from_map}
use Rattle.std.proofs.lemmas.Iterator.Consumers.{fits_by_from_yields_list}
use Rattle.matrix.specs.Matrix.{weight}
use Rattle.bitmatrix.proofs.Weight.{ones_elements, ones_le}
use Rattle.bitmatrix.proofs.ones_of.Goals as goal

pub sum-requires-clause-fits : goal.sum-requires-clause-fits
sum-requires-clause-fits c =
    fits_by_from_yields_list weight c.args.code.now _ (2 ^ 64)
    (YieldsList-from_map _ weight (YieldsList-from_slice c.args.code.now cc) c.map.ensures.closure (λ x r q k. search rules))
    (omega (arith, ones_elements c.args.code.now, ones_le c.args.code.now))

pub returns : goal.returns
returns c =
    let total : c.sum.result ≡ sum_by weight c.args.code.now = search (rules, chains) in
    total ∙ ones_elements c.args.code.now
