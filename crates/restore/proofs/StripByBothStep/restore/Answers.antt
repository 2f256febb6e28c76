-- `StripByBoth` meets its contract.
use mathlib.Core.Path.{◌≡◌, refl, sym, ap, ◌∙◌}
use mathlib.Core.Logic.{inr}
use Prim.Native.Nat.{ℕ, ◌+◌, ◌*◌, ◌≤◌, ◌<◌}
use native.Mathlib.Omega.{arith}
use Rattle.chunk.specs.Chunk.{width}
use Rattle.column.specs.Column.{Column, syndrome_p, syndrome_q, reed_solomon}
use Rattle.losses.specs.Losses.{without}
use Rattle.shape.specs.Layout.{column}
use Rattle.shape.proofs.Columns.{columns_count, columns_more}
use Rattle.stretch.proofs.Laws.{has_same}
use Rattle.sums.specs.Strip.{strip}
use Rattle.sums.proofs.Strips.{chunk_of, chunk_summed}
use Rattle.restore.proofs.Laws.{strip_has, survivors_seen}
use Rattle.restore.proofs.StripByBothStep.restore.Goals as goal

pub set_solved-requires : goal.set_solved-requires
set_solved-requires c =
    let a = c.args in
    let n = a.g.n in
    let x = a.self.pair.x in
    let y = a.self.pair.y in
    let held = strip_has c.requires.0 c.requires.1 in
    let l = c.loop-m in
    let k = width * l.m in
    let chunk = chunk_of held k (omega (arith, c.loop-m-test)) in
    let same : (j : ℕ) → j < width → column a.g a.stripe.now (a.i + k + j) ≡ column a.g l.stripe (a.i + k + j) = λ j p. sym (l.invariant.outside (a.i + k + j) (omega (arith, held.fits)) (inr (omega arith))) in
    let sums = survivors_seen {pair = a.self.pair} chunk (chunk_summed held x y _ c.strip_survivors.ensures l.m c.loop-m-test.true) in (
      has_same chunk l.invariant.kept,
      c.requires.2,
      record {
        first = λ j h. sums.first j h ∙ ap (λ (e : Column). syndrome_p n (without x y e)) (same j h);
        second = λ j h. sums.second j h ∙ ap (λ (e : Column). syndrome_q reed_solomon n (without x y e)) (same j h);
      },
    )

pub loop-m-preserved : goal.loop-m-preserved
loop-m-preserved c =
    let held = strip_has c.requires.0 c.requires.1 in
    let l = c.loop-m in
    let next : width * l.m + width ≡ width * (l.m + 1) = omega arith in
    let fits : width * l.m + width ≤ strip = omega (arith, c.loop-m-test) in
    columns_count next (columns_more refl (omega (arith, fits, held.fits)) l.invariant c.set_solved.ensures)

pub returns : goal.returns
returns c = let l = c.loop-m in columns_count (omega arith) l.invariant
