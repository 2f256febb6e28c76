-- What a call that is not refused tells of its numbers: the stripe is well shaped, and the disk and the stretch are of it.
-- Assumes nothing.
use Rattle.std.proofs.Common.{◌≡◌, ℕ, ◌-◌, ◌<◌, ◌≤◌, ◌≢◌, List, length, arith}
use Rattle.base.specs.Refusal.{first_of}
use Rattle.std.proofs.lemmas.Bool.Decides.{nat_tests}
use Rattle.shape.specs.declared.Geometry.{Geometry}
use Rattle.shape.specs.declared.Limits.{Limits}
use Rattle.shape.specs.Layout.{size}
use Rattle.shape.specs.Refusals.{library, limits_refusals, encode_refusal, write_refusal, check_refusal, WellShaped}

-- n and B are within their limits
pub record Within (limits : Limits) (g : Geometry) : Type 0 where
  pub disk : 0 < g.n
  pub disks : g.n ≤ limits.n
  pub some : 0 < g.b
  pub block : g.b ≤ limits.b

pub within_limits : (limits : Limits) (g : Geometry) → first_of (limits_refusals limits g) ≡ 0 → Within limits g
within_limits limits g e =
    record {
      disk = grind (arith, nat_tests, e);
      disks = grind (arith, nat_tests, e);
      some = grind (arith, nat_tests, e);
      block = grind (arith, nat_tests, e);
    }

-- what has the shape of a stripe is within the library's limits, and as long as it should be
pub shape_accepted : (g : Geometry) (len : ℕ) → encode_refusal g len ≡ 0 → Within library g × (len ≡ size g)
shape_accepted g len e = (within_limits library g (grind (arith, nat_tests, e)), grind (arith, nat_tests, e))

pub well_shaped : (g : Geometry) (s : List ℕ) → encode_refusal g (length s) ≡ 0 → WellShaped g s
well_shaped g s e =
    let told = shape_accepted g (length s) e in
    record {
      disks = told.0.disks;
      block = told.0.block;
      some = told.0.some;
      disk = told.0.disk;
      whole = told.1;
    }

-- ---- calls that are accepted
pub write_accepted : (g : Geometry) (len disk offset count : ℕ) → write_refusal g len disk offset count ≡ 0
    → (encode_refusal g len ≡ 0) × (disk < g.n) × (0 < count) × (offset ≤ g.b) × (count ≤ g.b - offset)
write_accepted g len disk offset count e =
    (grind (arith, nat_tests, e), grind (arith, nat_tests, e), grind (arith, nat_tests, e), grind (arith, nat_tests, e), grind (arith, nat_tests, e))

pub empty_write_refused : (g : Geometry) (len disk offset : ℕ) → write_refusal g len disk offset 0 ≢ 0
empty_write_refused g len disk offset e = absurd (omega (arith, (write_accepted g len disk offset 0 e).2))

pub check_accepted : (g : Geometry) (len room : ℕ) → check_refusal g len room ≡ 0 → (encode_refusal g len ≡ 0) × (room ≡ g.b)
check_accepted g len room e = (grind (arith, nat_tests, e), grind (arith, nat_tests, e))
