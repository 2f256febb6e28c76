-- `judge_code::code_at` meets its contract: each matrix is the one at its place, where all stand there.
use mathlib.Core.List.{[]}
use Prim.Native.Nat.{◌+◌, ◌*◌}
use native.Mathlib.Nat.{add-zero}
use native.Mathlib.Omega.{arith}
use borrow.Author.Rules.{rules}
use borrow.Author.Tests.{lt-ltb, le-ltb}
use lib.ListN.{length}
use Rattle.std.proofs.lemmas.List.FromFn.{fill_by_all}
use Rattle.judge_code.specs.Code.{matrix_at, code_at}
use Rattle.judge_code.proofs.code_at.Goals as goal

pub returns-then-s-lt64 : goal.returns-then-s-lt64
unfolding code_at
returns-then-s-lt64 c = simp (lt-ltb (length c.args.s.now) (c.args.at + 64) (omega arith))

pub returns : goal.returns
unfolding code_at
returns c =
    simp (le-ltb (length c.args.s.now) (c.args.at + 64) (omega arith))
    (simp add-zero at (fill_by_all (λ m. matrix_at c.args.s.now (c.args.at + 8 * m)) c.from_fn.result 8 [] c.from_fn.ensures.items.long
    (λ m l. search (rules, c.from_fn.ensures.items.at m [] l))))
