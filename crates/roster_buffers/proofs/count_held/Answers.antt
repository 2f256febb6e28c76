-- `roster_buffers::count_held` meets its contract: of all the array the last byte is kept if it is taken after the others.
use mathlib.Core.Path.{sym, ◌∙◌}
use borrow.Author.Rules.{rules}
use native.Mathlib.Omega.{arith}
use Rattle.roster_buffers.proofs.Kept.{holds_short, holds_last, holds_others}
use Rattle.roster_buffers.proofs.count_held.Goals as goal

pub returns-then-held-le-KEPT : goal.returns-then-held-le-KEPT
returns-then-held-le-KEPT c =
    let h = c.args.held.now in
    holds_short h.bytes (search rules) h.count (omega arith)

pub returns-then-is_taken : goal.returns-then-is_taken
returns-then-is_taken c =
    let h = c.args.held.now in
    holds_last h.bytes (search rules) h.count (omega arith) (sym c.is_taken.ensures ∙ c.if-is_taken.true)

pub returns : goal.returns
returns c =
    let h = c.args.held.now in
    holds_others h.bytes (search rules) h.count (omega arith) (sym c.is_taken.ensures ∙ c.if-is_taken.false)
