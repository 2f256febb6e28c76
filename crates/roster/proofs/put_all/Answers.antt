-- `roster::put_all` meets its contract.
use mathlib.Core.Path.{◌≡◌, refl, sym, ap}
use mathlib.Core.List.{List, [], ◌++◌}
use Prim.Native.Nat.{ℕ, ◌+◌, ◌-◌, ◌<◌}
use native.Mathlib.Omega.{arith}
use borrow.Author.Rules.{rules}
use borrow.Rule.Slice.PartMut.{put_mid}
use lib.ListN.{length, get_or, drop}
use Rattle.base.proofs.Tails.{put_tail}
use Rattle.roster.proofs.PutTo.{put_none, put_room, feed_room, put_more, put_all}
use Rattle.roster.proofs.put_all.Goals as goal

-- a serial that is put into a part of its length leaves what stands behind it
put_part : (out serial s : List ℕ) (at : ℕ) → s ≡ serial
    → put_mid at (at + length s - at) out s ≡ put_mid at (length out - at) out (serial ++ drop (length serial) (drop at out))
put_part out serial s at e =
    let size : at + length s - at ≡ length s = omega arith in
    rw (size, e) (sym (put_tail at out (serial ++ drop (length serial) (drop at out))))

pub loop-slot-init : goal.loop-slot-init
loop-slot-init c = put_none _ _

-- the next line has room
pub slice_bounds-copy_from_slice-end : goal.slice_bounds-copy_from_slice-end
slice_bounds-copy_from_slice-end c =
    let ss = c.args.lent.now in
    let l = c.loop-slot in
    let there : l.slot < length ss = omega (arith, c.len-slot-end.ensures) in
    let room : l.at + length (get_or ss l.slot []) < length c.args.out.now = put_room ss c.args.out.now l.out l.at l.slot l.invariant c.requires there in
    let size = ap length c.get-serial.ensures in
    search rules

pub bounds-out-at : goal.bounds-out-at
bounds-out-at c =
    let ss = c.args.lent.now in
    let l = c.loop-slot in
    let there : l.slot < length ss = omega (arith, c.len-slot-end.ensures) in
    let e = c.get-serial.ensures in
    rw (c.copy_from_slice.ensures.after, put_part l.out _ _ l.at e)
    (feed_room ss c.args.out.now l.out l.at l.slot l.invariant c.requires there refl (ap length e))

pub loop-slot-preserved : goal.loop-slot-preserved
loop-slot-preserved c =
    let ss = c.args.lent.now in
    let l = c.loop-slot in
    let there : l.slot < length ss = omega (arith, c.len-slot-end.ensures) in
    let e = c.get-serial.ensures in
    rw (c.copy_from_slice.ensures.after, put_part l.out _ _ l.at e)
    (put_more ss c.args.out.now l.out l.at l.slot l.invariant c.requires there refl (ap length e))

pub returns : goal.returns
returns c =
    let l = c.loop-slot in
    put_all c.args.lent.now c.args.out.now l.out l.at l.slot l.invariant (omega (arith, c.len-slot-end.ensures))
