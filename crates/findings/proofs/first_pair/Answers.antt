-- `findings::first_pair` meets its contract: the pair is that of the first i which has one.
use mathlib.Core.Path.{refl, sym}
use borrow.Author.Rules.{rules}
use lib.ListN.{length}
use Rattle.findings.specs.Findings.{first, pair_at}
use Rattle.findings.proofs.Findings.{first_mapped}
use Rattle.findings.proofs.first_pair.Goals as goal

pub returns : goal.returns
returns c =
    let code = c.args.code.now in
    sym (first_mapped _ (λ i. first (length code) (λ j. pair_at code i j)) (λ x o q k. search rules) _ c.find_map.result c.find_map.ensures.runs refl)
