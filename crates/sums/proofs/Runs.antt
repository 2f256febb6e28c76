-- Where the columns of a disk stand, and one disk more. All disks: the highest, and those below it. The disks of a group in one run, or in three:
-- above the higher of two lost ones, between both and below, each lost one as 00.
-- Assumes nothing.
use mathlib.Core.Path.{◌≡◌, sym, ap, ◌∙◌}
use mathlib.Core.Logic.{◌⊎◌, inl, inr, ⊎_elim}
use mathlib.Core.Bool.{true, true≢false}
use mathlib.Core.List.{List}
use Prim.Native.Nat.{ℕ, suc, ◌+◌, ◌-◌, ◌≤◌, ◌<◌, min, max}
use native.Mathlib.Omega.{arith}
use borrow.Author.Tests.{le-ltb, lt-leb}
use lib.ListN.{length, get_or, replicate}
use Rattle.base.proofs.Choice.{below_or_not}
use Rattle.base.proofs.Table.{tabulate_same}
use Rattle.chunk.specs.Chunk.{width, each, plus, double_plus}
use Rattle.chunk.specs.declared.Sums.{Sums}
use Rattle.column.specs.Column.{Column}
use Rattle.losses.specs.Losses.{without}
use Rattle.losses.proofs.Without.{without_other, without_lost}
use Rattle.shape.specs.declared.Geometry.{Geometry}
use Rattle.shape.specs.Layout.{start, low_start, place_before, column}
use Rattle.shape.proofs.Stretch.{block_start, before_start, stretch_inside}
use Rattle.stretch.specs.Stretch.{Has, column_of}
use Rattle.stretch.proofs.Laws.{column_of_lem}
use Rattle.sums.specs.Sums.{Tails, HighestAdded, DisksAdded, AddedAbove}
use Rattle.sums.specs.Strip.{outside, AddedWithin}
use Rattle.sums.proofs.Horner.{tails_none, tails_more}

-- where the columns of a disk stand
pub placed : {g : Geometry} {s : List ℕ} {i : ℕ} → Has g s i width → (k : ℕ) {p : ℕ} → k ≤ g.n → p ≡ low_start g k → p + i ≡ start g k + i
placed {g} {s} {i} has k h is = ap (λ (p : ℕ). p + i) (block_start g s k has.shaped (omega arith) is)

-- they lie within the stripe
pub inside : {g : Geometry} {s : List ℕ} {i : ℕ} → Has g s i width → (k : ℕ) {at : ℕ} → k ≤ g.n → at ≡ start g k + i → at + width ≤ length s
inside {g} {s} {i} has k h is =
    let within = stretch_inside g s k i width has.shaped (omega arith) has.fits in
    omega arith

-- and where those of the disk below disk m do
pub below : {g : Geometry} {s : List ℕ} {i : ℕ} → Has g s i width → length s < 18446744073709551616 → (k : ℕ) {m at r : ℕ} → m ≡ suc k → m ≤ g.n
    → at ≡ start g m + i
    → r ≡ place_before g at
    → r ≡ start g k + i
below {g} {s} {i} has small k {m} next h is moved =
    let within = inside has m h is in
    moved ∙ before_start g k i (omega (arith, has.shaped.block)) (omega arith) (is ∙ ap (λ (k : ℕ). start g k + i) next)

-- one disk more, read as d from its place in the stripe
pub disk_added : (g : Geometry) (s : List ℕ) (i : ℕ) {to k m at : ℕ} {a b c : Sums} (d : List ℕ) → m ≡ suc k → m ≤ to → to ≤ g.n
    → DisksAdded g i m to s a b
    → at ≡ start g k + i
    → d ≡ each (λ j. get_or s (at + j) 0)
    → ((j : ℕ) → get_or d j 0 < 256)
    → c.p ≡ plus b.p d
    → c.q ≡ double_plus b.q d
    → DisksAdded g i k to s a c
disk_added g s i {k = k} d next h most added place is bytes is_p is_q f agrees tails =
    tails_more g.n f d next (omega arith) (added f (λ j m l low high. agrees j m l (omega arith) high) tails)
    (is
    ∙ tabulate_same width
    (λ j l. ap (λ (p : ℕ). get_or s p 0) (omega (arith, place)) ∙ sym (agrees j k l (omega arith) (omega arith))))
    bytes
    is_p
    is_q

-- the highest disk, and all disks
pub highest_added : {g : Geometry} {s : List ℕ} {i : ℕ} (d : List ℕ) {a : Sums} → Has g s i width → d ≡ each (λ j. column_of g s i width j (g.n - 1)) → ((j : ℕ) → get_or d j 0 < 256)
    → a.p ≡ plus (replicate width 0) d
    → a.q ≡ double_plus (replicate width 0) d
    → HighestAdded g i s a
highest_added {g} d h is bytes is_p is_q f agrees =
    let some = h.shaped.disk in
    tails_more g.n f d (omega arith) (omega arith) (tails_none g.n f)
    (is ∙ tabulate_same width (λ j l. ap (λ (e : Column). e (g.n - 1)) (column_of_lem h j l) ∙ sym (agrees j (g.n - 1) l (omega arith) (omega arith))))
    bytes
    is_p
    is_q

pub all_added : {g : Geometry} {s : List ℕ} {i : ℕ} {a b : Sums} → Has g s i width → HighestAdded g i s a → DisksAdded g i 0 (g.n - 1) s a b → Tails g.n 0 (column_of g s i width) b
all_added {g} {s} {i} h highest below =
    let same : (j k : ℕ) → j < width → column_of g s i width j k ≡ column g s (i + j) k = λ j k l. ap (λ (e : Column). e k) (column_of_lem h j l) in
    below _ (λ j k l low high. same j k l) (highest _ (λ j k l low high. same j k l))

-- among all disks a lost one lies above none
pub within_all : {g : Geometry} {i lost to : ℕ} {s : List ℕ} {a b : Sums} {r : ℕ} → AddedAbove g i lost to s a r b → AddedWithin g i lost 0 to s a r b
within_all above =
    record {
      below = inr above.below;
      within = above.within;
      above = omega arith;
      sums = λ f agrees zero tails. above.sums f (λ j k l from to. agrees j k l (omega arith) (omega arith) to) zero tails;
    }

-- the byte of a role that is not lost
not_lost : {g : Geometry} {s : List ℕ} {i : ℕ} → Has g s i width → (x y : ℕ) {j k : ℕ} → j < width → (k ≡ x → ⊥) → (k ≡ y → ⊥) → without x y (column_of g s i width j) k ≡ column g s (i + j) k
not_lost {g} {s} {i} h x y {j} {k} l not_x not_y = without_other x y (column_of g s i width j) k not_x not_y ∙ ap (λ (r : Column). r k) (column_of_lem h j l)

-- a group without a lost disk is one run
is_other : {x from to k : ℕ} → outside x from to ≡ true → from ≤ k → k < to → k ≡ x → ⊥
is_other {x} {from} {to} out low high e = true≢false (sym out ∙ simp (le-ltb x from (omega arith), lt-leb to x (omega arith)))

pub plain_added : {g : Geometry} {s : List ℕ} {i : ℕ} (x y : ℕ) {from to : ℕ} {a b : Sums} → Has g s i width → outside x from to ≡ true → outside y from to ≡ true
    → DisksAdded g i from to s a b
    → Tails g.n to (λ j. without x y (column_of g s i width j)) a
    → Tails g.n from (λ j. without x y (column_of g s i width j)) b
plain_added {g} {s} {i} x y h not_x not_y run =
    run (λ j. without x y (column_of g s i width j)) λ j k l low high. not_lost h x y l (is_other not_x low high) (is_other not_y low high)

-- the lower and the higher of x and y
abbrev Lower : ℕ → ℕ → ℕ → Type 0
Lower x y low = (low ≤ x) × (low ≤ y) × ((low ≡ x) ⊎ (low ≡ y))

abbrev Higher : ℕ → ℕ → ℕ → Type 0
Higher x y high = (x ≤ high) × (y ≤ high) × ((high ≡ x) ⊎ (high ≡ y))

pub lower_min : {x y low : ℕ} → low ≡ min x y → Lower x y low
lower_min {x} {y} {low} is = (omega arith, omega arith, ⊎_elim (λ p. inl (omega arith)) (λ p. inr (omega arith)) (below_or_not x y))

pub higher_max : {x y high : ℕ} → high ≡ max x y → Higher x y high
higher_max {x} {y} {high} is = (omega arith, omega arith, ⊎_elim (λ p. inr (omega arith)) (λ p. inl (omega arith)) (below_or_not x y))

neither : {x y low high k : ℕ} → Lower x y low → Higher x y high → (k ≡ low → ⊥) → (k ≡ high → ⊥) → (k ≡ x → ⊥) × (k ≡ y → ⊥)
neither l h not_low not_high = (
  λ e. ⊎_elim (λ p. not_low (omega arith)) (λ p. ⊎_elim (λ q. not_high (omega arith)) (λ q. not_low (omega arith)) h.2) l.2,
  λ e. ⊎_elim (λ p. ⊎_elim (λ q. not_low (omega arith)) (λ q. not_high (omega arith)) h.2) (λ p. not_low (omega arith)) l.2,
)

pub runs_added : {g : Geometry} {s : List ℕ} {i : ℕ} (x y : ℕ) {low high from to k m : ℕ} {a b c d : Sums} → Has g s i width → Lower x y low → Higher x y high
    → AddedWithin g i high from to s a k b
    → AddedWithin g i low from k s b m c
    → DisksAdded g i from m s c d
    → Tails g.n to (λ j. without x y (column_of g s i width j)) a
    → Tails g.n from (λ j. without x y (column_of g s i width j)) d
runs_added {g} {s} {i} x y {low} {high} h lower higher above between below tails =
    let e = column_of g s i width in
    let f : ℕ → Column = λ j. without x y (e j) in
    let other : (j k : ℕ) → j < width → (k ≡ low → ⊥) → (k ≡ high → ⊥) → f j k ≡ column g s (i + j) k = λ j k l not_low not_high. let kept = neither lower higher not_low not_high in not_lost h x y l kept.0 kept.1 in
    below f
    (λ j k l from to. other j k l (λ e. ⊎_elim (λ p. omega arith) (λ p. omega arith) between.below) (λ e. ⊎_elim (λ p. omega arith) (λ p. omega (arith, between.within)) above.below))
    (between.sums f (λ j k l from past to. other j k l (omega arith) (λ e. ⊎_elim (λ p. omega arith) (λ p. omega arith) above.below)) (λ j l. without_lost x y (e j) low lower.2)
    (above.sums f (λ j k l from past to. other j k l (omega (arith, lower, higher)) (omega arith)) (λ j l. without_lost x y (e j) high higher.2) tails))
