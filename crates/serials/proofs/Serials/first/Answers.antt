-- `serials::Serials::first` meets its contract: the first ends lend the first serials.
use mathlib.Core.Path.{ap, ◌∙◌}
use Prim.Native.Nat.{ℕ}
use lib.ListN.{take}
use Rattle.std.proofs.lemmas.List.{take_min}
use Rattle.serials.specs.Serials.{serials}
use Rattle.serials.proofs.Laws.{serials_take}
use Rattle.serials.proofs.Serials.first.Goals as goal

pub returns : goal.returns
returns c =
    let s = c.self.inside in
    let k = c.args.count in
    rw (← c.self.view_is)
    (ap (λ (k : ℕ). serials s.chars.now (take k s.ends.now)) c.min.ensures ∙ ap (serials s.chars.now) (take_min k s.ends.now) ∙ serials_take s.chars.now 0 s.ends.now k)
