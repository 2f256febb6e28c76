-- `roster::read` meets its contract.
use mathlib.Core.Path.{◌≡◌, sym, ap, ◌∙◌}
use mathlib.Core.List.{List}
use Prim.Native.Nat.{ℕ, ◌+◌, ◌-◌}
use native.Mathlib.Omega.{arith}
use lib.Dec.{ltb}
use lib.ListN.{length, take, drop}
use Rattle.std.proofs.Common.{Err}
use Rattle.std.proofs.lemmas.Grind.{common_steps}
use Rattle.base.proofs.Tails.{tail}
use Rattle.serials.specs.Serials.{serials}
use Rattle.lines.specs.Lines.{line_feed}
use Rattle.lines.specs.Faults.{number_of, line_number, refused_at}
use Rattle.roster.specs.Text.{index_of}
use Rattle.roster.proofs.Calls.{read_left, read_done}
use Rattle.roster.proofs.ReadTo.{read_none, read_refused, read_room, read_more, read_all}
use Rattle.roster.proofs.read.Goals as goal

-- where the line that begins at `start` ends
placed : (text : List ℕ) (start n : ℕ) → n ≡ index_of line_feed (take (length text - start) (drop start text)) → start + n ≡ start + index_of line_feed (drop start text)
placed text start n is = ap (λ (i : ℕ). start + i) (is ∙ ap (index_of line_feed) (tail start text))

pub loop-start-init : goal.loop-start-init
loop-start-init c = (omega arith, read_none c.args.text.now c.args.ends.now c.told-ends)

pub returns-in_err-map_err : goal.returns-in_err-map_err
returns-in_err-map_err c =
    let text = c.args.text.now in
    let l = c.loop-start in
    let e = c.in_err-map_err.field-0.0 in
    let end = l.start + c.line_length.result in
    let line : e.line ≡ l.slots + 1 = grind (arith, common_steps) in
    let number : number_of e.fault ≡ line_number (serials text (take l.slots l.found)) (take (end - l.start) (drop l.start text)) (ltb end (length text)) = grind (arith, common_steps) in
    let is : c.from_residual.result ≡ Err e = grind (arith, common_steps) in
    rw is
    (read_left e
    (read_refused text l.start end (omega arith) (placed text l.start _ c.line_length.ensures.place) l.invariant.1 (omega arith) e.fault number
    ∙ ap (refused_at (number_of e.fault)) (sym line)))

pub bounds-found-slots : goal.bounds-found-slots
bounds-found-slots c =
    let text = c.args.text.now in
    let l = c.loop-start in
    let end = l.start + c.line_length.result in
    let number : 0 ≡ line_number (serials text (take l.slots l.found)) (take (end - l.start) (drop l.start text)) (ltb end (length text)) = grind (arith, common_steps) in
    read_room text l.start end (omega arith) (placed text l.start _ c.line_length.ensures.place) l.invariant.1 (omega arith) number

pub loop-start-preserved : goal.loop-start-preserved
loop-start-preserved c =
    let text = c.args.text.now in
    let l = c.loop-start in
    let end = l.start + c.line_length.result in
    let number : 0 ≡ line_number (serials text (take l.slots l.found)) (take (end - l.start) (drop l.start text)) (ltb end (length text)) = grind (arith, common_steps) in (
      omega arith,
      read_more text l.start end (omega arith) (placed text l.start _ c.line_length.ensures.place) l.invariant.1 (omega arith) number,
    )

pub returns : goal.returns
returns c =
    let done = read_all c.loop-start.invariant.1 (omega arith) in
    read_done done.0 done.1
