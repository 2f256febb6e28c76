-- `stretch::Stretch::load` meets its contract: what lies in the buffer is lent as a part.
use mathlib.Core.Path.{◌∙◌}
use Rattle.stretch.proofs.Laws.{no_stretch, loaded_there}
use Rattle.stretch.proofs.Stretch.load.Goals as goal

pub returns-in-Some : goal.returns-in-Some
returns-in-Some c = c.load.ensures ∙ loaded_there c.in-Some.ensures

pub returns-in-None : goal.returns-in-None
returns-in-None c = let a = c.args in no_stretch a.self.g a.stripe.now a.role a.self.i a.self.w c.in-None.ensures
