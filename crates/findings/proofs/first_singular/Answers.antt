-- `findings::first_singular` meets its contract: the place is the first whose matrix is singular.
use mathlib.Core.Path.{◌≡◌, sym, ◌∙◌}
use borrow.Author.Tests.{tests}
use borrow.Author.Rules.{rules}
use mathlib.Core.Bool.{true, false}
use mathlib.Core.List.{[]}
use Rattle.std.specs.Option.{option_map}
use Rattle.std.proofs.lemmas.Iterator.{YieldsList-from_slice, IsFirst-from_position}
use Rattle.matrix.specs.Matrix.{singular}
use Rattle.findings.specs.declared.Flaw.TheVariants.{Singular}
use Rattle.findings.proofs.Findings.{first_element}
use Rattle.findings.proofs.first_singular.Goals as goal

pub returns : goal.returns
returns c =
    let code = c.args.code.now in
    let is : c.map.result ≡ option_map Singular c.position.result = search rules in
    let place = IsFirst-from_position _ _ c.position.result (λ m. singular m ≡ true) (λ m. singular m ≡ false) c.position.ensures.ran (YieldsList-from_slice code cc)
    (λ x q k. search (rules, tests)) (λ x q k. search (rules, tests)) in
    is ∙ sym (first_element singular Singular code [] c.position.result place)
