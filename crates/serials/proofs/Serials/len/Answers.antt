-- `serials::Serials::len` meets its contract: there is a serial for each end.
use mathlib.Core.Path.{sym}
use Rattle.serials.proofs.Laws.{length_serials}
use Rattle.serials.proofs.Serials.len.Goals as goal

pub returns : goal.returns
returns c =
    let s = c.self.inside in
    sym (rw (← c.self.view_is) (length_serials s.chars.now 0 s.ends.now))
