-- `chunk::load` meets its contract: what is not copied is 00.
use mathlib.Core.Path.{◌∙◌}
use Rattle.chunk.proofs.Copied.{whole, padded}
use Rattle.chunk.proofs.load.Goals as goal

pub returns-then-from-lt-WIDTH : goal.returns-then-from-lt-WIDTH
returns-then-from-lt-WIDTH c = padded c.args.from.now c.if-from-lt-WIDTH.true c.copy_from_slice.ensures.after

pub returns : goal.returns
returns c = c.copy_from_slice-2.ensures.after ∙ whole c.args.from.now c.if-from-lt-WIDTH.false
