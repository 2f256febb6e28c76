-- `findings::find` meets its contract: the places from the count on change nothing.
use mathlib.Core.Path.{◌≡◌, ap, ◌∙◌}
use mathlib.Core.List.{[]}
use native.Mathlib.Omega.{arith}
use Prim.Native.Nat.{min}
use borrow.Author.Rules.{rules}
use lib.ListN.{take, length}
use Rattle.std.proofs.lemmas.List.{length-take-le, get_or-take}
use Rattle.findings.specs.Findings.{finding}
use Rattle.findings.proofs.Places.{finding_places}
use Rattle.findings.proofs.find.Goals as goal

pub returns : goal.returns
unfolding finding
returns c =
    let found : c.or_else.result ≡ finding (take (min c.args.count 8) c.args.code) (length (take (min c.args.count 8) c.args.code)) = search rules in
    let n = min c.args.count 8 in
    let used : length (take n c.args.code) ≡ n = length-take-le n c.args.code (omega arith) in
    found ∙ ap (finding (take n c.args.code)) used ∙ finding_places (take n c.args.code) c.args.code n (λ i l. get_or-take n c.args.code i [] l)
