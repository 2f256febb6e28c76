-- `restore::restore_parities` meets its contract: each way encodes every column.
use mathlib.Core.Path.{ap, fun_ext, ◌∙◌}
use Rattle.column.specs.Column.{Column}
use Rattle.shape.specs.Layout.{lift}
use Rattle.restore.proofs.Laws.{encode_solved}
use Rattle.restore.proofs.restore_parities.Goals as goal

pub returns-then-in_strips : goal.returns-then-in_strips
returns-then-in_strips c =
    let a = c.args in
    c.restore_by.ensures ∙ ap (λ (f : Column → Column). lift a.g (λ i. f) a.stripe.now) (fun_ext λ e. encode_solved a.g.n e)
