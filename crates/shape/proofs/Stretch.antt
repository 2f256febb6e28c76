-- A stretch of a block: where it stands in the buffer, and what setting it does to the columns.
-- Assumes nothing.
use Rattle.std.proofs.Common.{◌≡◌, ℕ, suc, ◌+◌, ◌-◌, ◌<◌, ◌≤◌, ◌≢◌, List, length, get_or, take, drop, sym, ap, ◌∙◌, ⊎_elim, arith}
use Rattle.base.specs.Table.{spliced}
use Rattle.base.proofs.Choice.{below_or_not}
use Rattle.base.proofs.Tails.{part_place}
use Rattle.base.proofs.Splice.{length_spliced, spliced_in, spliced_low, spliced_high}
use Rattle.column.specs.Column.{put}
use Rattle.column.proofs.Put.{by_role, put_same, put_other}
use Rattle.shape.specs.declared.Geometry.{Geometry}
use Rattle.shape.specs.Layout.{start, low_start, place_before, column}
use Rattle.shape.specs.Refusals.{WellShaped}
use Rattle.shape.specs.Columns.{ColumnsMapped}
use Rattle.shape.proofs.Places.{low_start_lem, block_end, start_mono, start_end}

-- the block of a role that the stripe has begins where `start` says
pub block_start : (g : Geometry) (s : List ℕ) (r : ℕ) {p : ℕ} → WellShaped g s → r < g.n + 2 → p ≡ low_start g r → p ≡ start g r
block_start g s r shaped hr e = e ∙ low_start_lem g r (omega (arith, shaped.block)) (omega (arith, shaped.disks))

-- and where column i of the role before stands
pub before_start : (g : Geometry) (k i : ℕ) {at : ℕ} → g.b < 4294967296 → at < 18446744073709551616 → at ≡ start g (suc k) + i → place_before g at ≡ start g k + i
before_start g k i block fits is = let ends = block_end g k in omega arith

pub stretch_inside : (g : Geometry) (s : List ℕ) (role offset count : ℕ) → WellShaped g s → role < g.n + 2 → offset + count ≤ g.b → start g role + offset + count ≤ length s
stretch_inside g s role offset count shaped known fits =
    let ends = block_end g role in
    let below = start_mono g {r = suc role} {t = g.n + 2} (omega arith) in
    let last = start_end g in
    omega (arith, shaped.whole)

-- a stretch set
module _ (g : Geometry) (s : List ℕ) (d i : ℕ) (m : List ℕ) (shaped : WellShaped g s) (known : d < g.n + 2) (within_block : i + length m ≤ g.b) where
  abbrev t : List ℕ
  t = spliced s (start g d + i) m

  fits : start g d + i + length m ≤ length s
  fits = stretch_inside g s d i (length m) shaped known within_block

  -- the other roles' blocks end before it or begin after it
  other : (c r : ℕ) → c < g.b → r ≢ d → column g t c r ≡ column g s c r
  other c r hc h =
      ⊎_elim (λ p. spliced_low s (start g d + i) m fits (start g r + c) (omega (arith, block_end g r, start_mono g p)))
      (λ p.
      spliced_high s (start g d + i) m fits (start g r + c) (omega (arith, within_block, block_end g d, start_mono g {r = suc d} {t = r} (omega arith))))
      (below_or_not r d)

  pub columns_set : ColumnsMapped g i (length m) (λ j c. put d (get_or m j 0) c) s t
  columns_set =
      record {
        kept = length_spliced s (start g d + i) m fits;
        within = λ j p.
            by_role d
            (ap (λ (a : ℕ). get_or t a 0) (omega arith) ∙ spliced_in s (start g d + i) m fits j p ∙ sym (put_same d (get_or m j 0) (column g s (i + j))))
            (λ r h. other (i + j) r (omega (arith, within_block)) h ∙ sym (put_other d (get_or m j 0) (column g s (i + j)) r h));
        outside = λ c p where_it_is.
            by_role d
            (⊎_elim (λ l. spliced_low s (start g d + i) m fits (start g d + c) (omega arith)) (λ l. spliced_high s (start g d + i) m fits (start g d + c) (omega arith)) where_it_is)
            (λ r h. other c r p h);
      }

-- ---- a stretch lent as a part of the buffer, from `at` on
module _ (g : Geometry) (s : List ℕ) (role i w : ℕ) {at : ℕ} (is : at ≡ start g role) where
  pub part_at : (j : ℕ) → j < w → get_or (take (at + i + w - (at + i)) (drop (at + i) s)) j 0 ≡ column g s (i + j) role
  part_at j h =
      part_place s (at + i) (at + i + w) j (omega arith)
      ∙ ap (λ (p : ℕ). get_or s p 0) (omega arith)
