-- `serials::Serials::find` meets its contract: it finds the lowest slot whose serial is the asked one.
use mathlib.Core.Path.{◌≡◌}
use mathlib.Core.Logic.{◌≢◌}
use mathlib.Core.List.{[]}
use borrow.Author.Tests.{tests}
use borrow.Author.Rules.{rules}
use lib.ListN.{get_or}
use Prim.Native.Nat.{ℕ}
use Rattle.std.proofs.lemmas.Iterator.{first_from_Range}
use Rattle.std.proofs.lemmas.Slice.Eq.{bytes_eq-Decides}
use Rattle.std.proofs.lemmas.Bool.Decides.{not_from_Decides}
use Rattle.serials.proofs.LookUp.{first_found}
use Rattle.serials.proofs.Serials.find.Goals as goal

pub returns : goal.returns
returns c =
    let ss = c.args.self.now in
    let asked = c.args.asked.now in
    let compared = λ (k : ℕ). bytes_eq-Decides (get_or ss k []) asked in
    first_found ss asked c.len.result c.len.ensures c.find.result
    (first_from_Range _ _ _ c.find.result (λ k. get_or ss k [] ≡ asked) (λ k. get_or ss k [] ≢ asked) c.find.ensures.ran
    (λ k q called. (compared k).0 (search (rules, tests)))
    (λ k q called. (search (rules, tests), not_from_Decides _ (compared k) (search (rules, tests)))))
