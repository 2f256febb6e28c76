-- `compare::Stripe::check_strip` meets its contract.
use mathlib.Core.Path.{◌≡◌, ap, sym, ◌∙◌, subst}
use Prim.Native.Nat.{ℕ, ◌+◌, ◌*◌, ◌-◌, ◌≤◌}
use native.Mathlib.Nat.{le_refl}
use native.Mathlib.Omega.{arith}
use borrow.Rule.Slice.PartMut.{put_mid, Post-is}
use lib.ListN.{length, get_or, take, drop}
use Rattle.base.specs.Table.{tabulate}
use Rattle.base.proofs.Tails.{part_length}
use Rattle.base.proofs.Table.{tabulate_same}
use Rattle.chunk.specs.Chunk.{width}
use Rattle.column.specs.Column.{verdict}
use Rattle.shape.specs.Layout.{column}
use Rattle.sums.specs.Strip.{strip, HasStrip}
use Rattle.sums.proofs.Strips.{none, chunk_summed}
use Rattle.verdict.specs.Verdicts.{verdicts_of}
use Rattle.verdict.proofs.Summary.{FilledWithSummary, summary_filled_none, summary_filled_part, summary_filled_all, summary_as}
use Rattle.compare.specs.Compare.{verdicts_from}
use Rattle.compare.proofs.Verdicts.{verdicts_summed}
use Rattle.compare.proofs.Stripe.check_strip.Goals as goal

pub loop-m-init : goal.loop-m-init
loop-m-init c = summary_filled_none c.requires.1

pub loop-m-preserved : goal.loop-m-preserved
loop-m-preserved c =
    let a = c.args in
    let s = a.self in
    let n = s.g.n in
    let f : ℕ → ℕ = λ j. verdict n (column s.g s.bytes.now (a.i + j)) in
    let h : HasStrip s.g s.bytes.now a.i = record { shaped = s.shaped; fits = c.requires.0 } in
    let l = c.loop-m in
    let k = width * l.m in
    let fits : k + width ≤ strip = omega (arith, c.loop-m-test) in
    let next : k + width ≡ width * (l.m + 1) = omega arith in
    let size : length (take (k + width - k) (drop k l.room)) ≡ width = part_length l.room k (k + width) (omega arith) (omega (arith, fits, l.invariant.filled.long)) ∙ omega arith in
    let r = get_or c.strip_survivors.new.strip l.m none in
    let sums = chunk_summed h (n + 2) (n + 2) _ (rw c.beyond.ensures at c.strip_survivors.ensures) l.m c.loop-m-test.true in
    let told : verdicts_of n r.p r.q (length (take (k + width - k) (drop k l.room))) ≡ tabulate width (λ j. f (k + j)) =
    ap (verdicts_of n r.p r.q) size
    ∙ verdicts_summed (a.i + k) width s.shaped (omega (arith, fits, c.requires.0), le_refl width) sums
    ∙ tabulate_same width (λ j h. ap (λ (i : ℕ). verdict n (column s.g s.bytes.now i)) (omega arith)) in
    subst (λ (e : ℕ). FilledWithSummary f strip a.room.now (put_mid k (k + width - k) l.room c.verdicts_of.new.room) e c.joined-found.result) next (summary_filled_part width l.invariant fits (summary_as told c.verdicts_of.ensures) (Post-is k (k + width) l.room (omega arith)) c.joined-found.ensures)

pub returns : goal.returns
returns c =
    let a = c.args in
    let s = a.self in
    summary_as (ap (verdicts_from s.g s.bytes.now a.i) (sym c.requires.1)) (summary_filled_all c.loop-m.invariant (omega arith))
