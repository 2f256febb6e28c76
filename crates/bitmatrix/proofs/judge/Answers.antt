-- `bitmatrix::judge` meets its contract: the ones of the first count matrices are those of the code at that count.
use mathlib.Core.Path.{◌≡◌, ap, ◌∙◌}
use mathlib.Core.List.{[]}
use Prim.Native.Nat.{ℕ, min, ◌≤◌}
use native.Mathlib.Omega.{arith}
use borrow.Author.Rules.{rules}
use lib.ListN.{take, length}
use Rattle.std.proofs.lemmas.List.{length-take-le, get_or-take}
use Rattle.findings.specs.Findings.{Code, Finding, finding}
use Rattle.bitmatrix.specs.Judge.{ones}
use Rattle.bitmatrix.proofs.Places.{ones_places}
use Rattle.bitmatrix.proofs.judge.Goals as goal

at_count : (code : Code) (count : ℕ) (g : Finding) (n : ℕ) → length code ≡ 8 → count ≤ 8
    → g ≡ finding code (min count 8) → n ≡ ones (take count code) (length (take count code)) → (g ≡ finding code count) × (n ≡ ones code count)
at_count code count g n eight l found counted = (
  found ∙ ap (finding code) (omega arith),
  counted ∙ ap (ones (take count code)) (length-take-le count code (omega arith))
      ∙ ones_places (take count code) code count (λ i below. get_or-take count code i [] below),
)

pub returns-then-is_none : goal.returns-then-is_none
returns-then-is_none c =
    let known = at_count c.args.code c.args.count c.find-finding.result c.ones_of-ones.result (cc) (omega arith) c.find-finding.ensures c.ones_of-ones.ensures in
    search rules

pub returns-else-is_none : goal.returns-else-is_none
returns-else-is_none c =
    let known = at_count c.args.code c.args.count c.find-finding.result c.ones_of-ones.result (cc) (omega arith) c.find-finding.ensures c.ones_of-ones.ensures in
    search rules
