-- `findings::first_partner` meets its contract: the place is the first after i whose matrix and that at i have a singular sum.
use mathlib.Core.Path.{◌≡◌, sym, ◌∙◌}
use mathlib.Core.Bool.{true, false}
use borrow.Author.Tests.{tests}
use borrow.Author.Rules.{rules}
use lib.ListN.{length}
use Rattle.std.specs.Option.{option_map}
use Rattle.std.proofs.lemmas.Iterator.{first_from_Range}
use Rattle.matrix.specs.Matrix.{add, singular}
use Rattle.findings.specs.Findings.{X}
use Rattle.findings.specs.declared.Flaw.TheVariants.{Pair}
use Rattle.findings.proofs.Findings.{first_after}
use Rattle.findings.proofs.first_partner.Goals as goal

pub returns : goal.returns
returns c =
    let code = c.args.code.now in
    let is : c.map.result ≡ option_map (Pair c.args.i) c.find.result = search rules in
    let place = first_from_Range _ _ _ c.find.result (λ j. singular (add (X code c.args.i) (X code j)) ≡ true) (λ j. singular (add (X code c.args.i) (X code j)) ≡ false) c.find.ensures.ran
    (λ x q k. search (rules, tests)) (λ x q k. search (rules, tests)) in
    is ∙ sym (first_after (λ j. singular (add (X code c.args.i) (X code j))) (Pair c.args.i) c.args.i (length code) c.find.result place)
