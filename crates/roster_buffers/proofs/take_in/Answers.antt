-- `roster_buffers::take_in` meets its contract.
use mathlib.Core.Path.{◌≡◌, sym, ap, ◌∙◌}
use mathlib.Core.List.{◌∷◌, [], ◌++◌, append_assoc}
use Prim.Native.Nat.{◌+◌}
use native.Mathlib.Numerals.{add-one}
use native.Mathlib.Omega.{arith}
use lib.ListN.{get_or, take, drop, length-set}
use lib.Seq.{take-suc, drop-drop, drop-set-lt}
use Rattle.roster_buffers.proofs.Kept.{holds_taken, holds_left, taken_room}
use Rattle.roster_buffers.proofs.take_in.Goals as goal
use Rattle.roster_buffers.proofs.take_in.Goals.{then-is_taken, else-is_taken}

pub loop-c-preserved : goal.loop-c-preserved
loop-c-preserved c =
    let a = c.args in
    let l = c.loop-c in
    let byte = get_or a.more.now l.c-index 0 in
    let next : take a.held.now.count a.held.now.bytes ++ take (l.c-index + 1) a.more.now ≡ (take a.held.now.count a.held.now.bytes ++ take l.c-index a.more.now) ++ (byte ∷ []) =
    rw (add-one, take-suc a.more.now l.c-index 0 (omega arith)) (sym (append_assoc (take a.held.now.count a.held.now.bytes) (take l.c-index a.more.now) (byte ∷ [])))
    in
    elim c.if-is_taken.branch [
      | then-is_taken w ↦
          let is = sym c.is_taken.ensures ∙ w.if-is_taken.true in (
            rw w.held-is (length-set l.held.bytes l.held.count byte ∙ l.invariant.0),
            rw (w.held-is, next) (holds_taken l.held.bytes l.invariant.0 byte l.invariant.1 is (taken_room l.held.count byte is)),
            rw w.held-is (drop-set-lt (l.held.count + 1) l.held.bytes l.held.count byte (omega arith) ∙ sym (drop-drop 1 l.held.count l.held.bytes) ∙ ap (drop 1) l.invariant.2 ∙ drop-drop 1 l.held.count a.held.now.bytes),
          )
      | else-is_taken w ↦ (
        rw w.held-is l.invariant.0,
        rw (w.held-is, next) (holds_left l.held.bytes l.invariant.0 byte l.invariant.1 (sym c.is_taken.ensures ∙ w.if-is_taken.false)),
        rw w.held-is l.invariant.2,
      )
    ]
