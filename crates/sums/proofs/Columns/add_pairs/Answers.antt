-- `sums::Columns::add_pairs` meets its contract.
use mathlib.Core.Path.{◌≡◌, refl, ap, subst, ◌∙◌}
use Prim.Native.Nat.{ℕ, ◌+◌, ◌*◌, ◌-◌, ◌≤◌, ◌%◌}
use native.Mathlib.Omega.{arith}
use lib.ListN.{length}
use Rattle.chunk.specs.Chunk.{width}
use Rattle.shape.specs.declared.Geometry.{Geometry}
use Rattle.shape.specs.Layout.{start, place_before}
use Rattle.stretch.specs.Stretch.{Has}
use Rattle.std.proofs.Common.{◌≡◌, ℕ, ◌+◌, ◌-◌, ◌<◌, ◌≤◌, List, length}
use Rattle.chunk.specs.Chunk.{width}
use Rattle.sums.specs.Sums.{Tails}
use Rattle.sums.proofs.Runs.{placed, inside, below, disk_added}
use Rattle.chunk.proofs.Bytes.{bytes}
use Rattle.sums.proofs.Columns.add_pairs.Goals as goal

-- where the next two disks below disk k have the columns, and that they lie within the stripe
places : {g : Geometry} {s : List ℕ} {i at above next : ℕ} → Has g s i width → (k : ℕ) → length s < 18446744073709551616 → 1 < k → k ≤ g.n → at ≡ start g k + i
    → above ≡ place_before g at
    → next ≡ place_before g above
    → (above ≡ start g (k - 1) + i) × (next ≡ start g (k - 2) + i)
places has k small two h is one other =
    let first = below has small (k - 1) (omega arith) h is one in
    (first, below has small (k - 2) (omega arith) (omega arith) first other)

ends : {g : Geometry} {s : List ℕ} {i at above next : ℕ} → Has g s i width → (k : ℕ) → length s < 18446744073709551616 → 1 < k → k ≤ g.n → at ≡ start g k + i
    → above ≡ place_before g at
    → next ≡ place_before g above
    → (above + width ≤ length s) × (next + width ≤ length s)
ends has k small two h is one other =
    let at = places has k small two h is one other in
    (inside has (k - 1) (omega arith) at.0, inside has (k - 2) (omega arith) at.1)

pub overflow_add-at : goal.overflow_add-at
overflow_add-at c = omega (arith, inside c.args.self.has c.args.to (omega arith) (placed c.args.self.has c.args.to (omega arith) c.start.ensures))

pub load-d-requires : goal.load-d-requires
load-d-requires c = (ends c.args.self.has (c.args.to - 2 * c.loop-m.m) (omega arith) (omega arith) (omega arith) c.loop-m.invariant.0 c.role_before-above.ensures c.role_before-at.ensures).0

pub load-e-requires : goal.load-e-requires
load-e-requires c = (ends c.args.self.has (c.args.to - 2 * c.loop-m.m) (omega arith) (omega arith) (omega arith) c.loop-m.invariant.0 c.role_before-above.ensures c.role_before-at.ensures).1

pub loop-m-preserved : goal.loop-m-preserved
loop-m-preserved c =
    let a = c.args in
    let l = c.loop-m in
    let d = c.load-d in
    let e = c.load-e in
    let at = places c.args.self.has (c.args.to - 2 * c.loop-m.m) (omega arith) (omega arith) (omega arith) c.loop-m.invariant.0 c.role_before-above.ensures c.role_before-at.ensures in
    let lower : c.role_before-at.result ≡ start a.self.g (a.to - 2 * (l.m + 1)) + a.self.i = at.1 ∙ ap (λ (k : ℕ). start a.self.g k + a.self.i) (omega arith) in
    let first = disk_added a.self.g a.self.stripe.now a.self.i d.result (omega arith) (omega arith) (omega arith) l.invariant.1 at.0 d.ensures (bytes d.result d.type_inv.0 d.type_inv.1.1) refl refl in (
      lower,
      disk_added a.self.g a.self.stripe.now a.self.i e.result (omega arith) (omega arith) (omega arith) first lower e.ensures
          (bytes e.result e.type_inv.0 e.type_inv.1.1)
          c.add_two_disks.ensures.0
          c.add_two_disks.ensures.1,
    )

pub returns : goal.returns
returns c =
    let l = c.loop-m in
    let same : c.args.to - 2 * l.m ≡ c.args.to % 2 = omega arith in
    λ f agrees tails. c.add_disks.ensures f (λ j k p low high. agrees j k p low (omega arith)) (subst (λ (k : ℕ). Tails c.args.self.g.n k f l.sums) same (l.invariant.1 f (λ j k p low high. agrees j k p (omega arith) high) tails))
