-- `chunk::are_zero` meets its contract.
use mathlib.Core.Path.{◌≡◌, refl}
use native.Mathlib.Numerals.{add-one}
use native.Mathlib.Omega.{arith}
use lib.ListN.{length}
use Rattle.std.proofs.lemmas.List.{length_push}
use Rattle.std.proofs.lemmas.Slice.Zip.{zip_turn, zip_end}
use Rattle.chunk.specs.Chunk.{width, zeros}
use Rattle.chunk.proofs.Zeros.{zeros_more}
use Rattle.chunk.proofs.are_zero.Goals as goal

pub loop-x-init : goal.loop-x-init
loop-x-init c = unfold zeros in refl

pub loop-x-preserved : goal.loop-x-preserved
loop-x-preserved c =
    let l = c.loop-x in
    let at = zip_turn c.args.p.now c.args.q.now l.yielded _ _ c.next.new.self _ (cc) (cc) l.yielded_by _ c.in-Some.is c.next.ensures.steps in
    rw (length_push, add-one, at.2 0, at.3 0) (zeros_more c.args.p.now c.args.q.now (length l.yielded) l.r l.invariant)

pub returns : goal.returns
returns c =
    let l = c.loop-x in
    let all : length l.yielded ≡ width = omega (arith, zip_end c.args.p.now c.args.q.now l.yielded _ _ c.next.new.self _ (cc) (cc) l.yielded_by c.in-None.is c.next.ensures.steps) in
    rw all at l.invariant
