-- `verdict::located` meets its contract: no exponent below n is the logarithm.
use mathlib.Core.Path.{sym, ◌∙◌}
use native.Mathlib.Omega.{arith}
use Rattle.verdict.proofs.Divided.{located_beyond}
use Rattle.verdict.proofs.located.Goals as goal

pub returns-then-n-z : goal.returns-then-n-z
returns-then-n-z c = sym (located_beyond _ _ _ (sym c.logarithm.ensures ∙ c.unwrap-z.ensures) (omega arith) c.if-n-z.true)
