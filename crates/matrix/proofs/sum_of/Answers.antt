-- `matrix::sum_of` meets its contract: each row is the sum of the two at its place.
use borrow.Author.Rules.{rules}
use Rattle.base.proofs.Table.{is_tabulate}
use Rattle.matrix.proofs.sum_of.Goals as goal

pub returns : goal.returns
returns c = is_tabulate 8 _ c.from_fn.result c.from_fn.ensures.items.long (λ i l. search (rules, c.from_fn.ensures.items.at i 0 l))
