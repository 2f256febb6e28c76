-- A call whose numbers are in range is accepted: none of the tests of its order applies. With `Refused` a call is accepted exactly then.
-- Assumes nothing.
use Rattle.std.proofs.Common.{◌≡◌, ℕ, ◌-◌, ◌<◌, ◌≤◌, List, length, arith}
use Rattle.std.proofs.lemmas.Bool.Decides.{nat_tests}
use Rattle.shape.specs.declared.Geometry.{Geometry}
use Rattle.shape.specs.Refusals.{encode_refusal, write_refusal, check_refusal, WellShaped}

pub shape_accepts : (g : Geometry) (s : List ℕ) → WellShaped g s → encode_refusal g (length s) ≡ 0
shape_accepts g s shaped = grind (arith, nat_tests, shaped.disks, shaped.block, shaped.some, shaped.disk, shaped.whole)

-- ---- after refusals 1 to 3
module _ (g : Geometry) (len : ℕ) (fits : encode_refusal g len ≡ 0) where
  pub write_accepts : (disk offset count : ℕ) → disk < g.n → 0 < count → offset ≤ g.b → count ≤ g.b - offset → write_refusal g len disk offset count ≡ 0
  write_accepts disk offset count hd hs ho hc = grind (arith, nat_tests, fits, hd, hs, ho, hc)

  -- a write of no bytes to a disk that is there, at any offset
  pub empty_write_six : (disk offset : ℕ) → disk < g.n → write_refusal g len disk offset 0 ≡ 6
  empty_write_six disk offset hd = grind (arith, nat_tests, fits, hd)

  pub check_accepts : (room : ℕ) → room ≡ g.b → check_refusal g len room ≡ 0
  check_accepts room e = grind (arith, nat_tests, fits, e)
