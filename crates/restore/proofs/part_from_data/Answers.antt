-- `restore::part_from_data` meets its contract: without both parities the sums are those of the data.
use mathlib.Core.Path.{◌∙◌}
use Rattle.restore.proofs.Laws.{sums_of_data}
use Rattle.restore.proofs.part_from_data.Goals as goal

pub set_from_data-requires : goal.set_from_data-requires
set_from_data-requires c = (c.requires, c.part_survivors-sums.ensures ∙ sums_of_data c.args.at.g.n _)
