-- Where the job's limit falls: one disk may have `most_columns` bytes, and of disks with 4,097 bytes a job takes twelve.
-- Assumes nothing.
use mathlib.Core.Path.{◌≡◌, refl}
use mathlib.Core.Bool.{true, false}
use Prim.Native.Nat.{ℕ, ◌≤◌, ◌<◌}
use native.Mathlib.Omega.{arith}
use borrow.Author.Tests.{lt-ltb, le-ltb}
use Rattle.shape.specs.Layout.{geometry, size}
use Rattle.shape.specs.Refusals.{library, refusal2}
use Rattle.header.specs.Refusals.{job_limit, most_columns, refusal20}

pub columns_reached : (refusal20 (geometry 1 most_columns)).applies ≡ false
columns_reached = refl

module _ (n : ℕ) where
  pub block_4097 : (refusal2 library (geometry n 4097)).applies ≡ false
  block_4097 = refl

  pub block_4097_to_12 : n ≤ 12 → (refusal20 (geometry n 4097)).applies ≡ false
  block_4097_to_12 h = le-ltb job_limit (size (geometry n 4097)) (omega arith)

  pub block_4097_from_13 : 12 < n → (refusal20 (geometry n 4097)).applies ≡ true
  block_4097_from_13 h = lt-ltb job_limit (size (geometry n 4097)) (omega arith)
