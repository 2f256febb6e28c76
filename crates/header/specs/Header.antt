-- A job is a header of 14 bytes and a stripe. The header: mark, version, command byte, n, B, and the codes of a first and a second
-- device. All but the mark and the command are 16-bit fields.
use Rattle.std.specs.Prelude.{ℕ, ◌≡◌, List, [], ◌∷◌, length, get_or, take, drop, Option}
use Rattle.column.specs.declared.Lost.{Lost}
use Rattle.shape.specs.declared.Geometry.{Geometry}
use Rattle.shape.specs.Layout.{geometry}
use Rattle.devices.specs.declared.Named.{Named}
use Rattle.devices.specs.Codes.{named_by, loss_of}
use Rattle.header.specs.Fields.{field}

-- "SRJ"
abbrev pub mark : List ℕ
mark = 0x53 ∷ 0x52 ∷ 0x4a ∷ []

abbrev pub version_of : List ℕ → ℕ
version_of job = field job 3

-- 1 encode, 2 rebuild, 3 check, 4 repair
abbrev pub command_of : List ℕ → ℕ
command_of job = get_or job 5 0

abbrev pub geometry_of : List ℕ → Geometry
geometry_of job = geometry (field job 6) (field job 8)

-- what the two device codes stand for, and what they name together
abbrev pub first_device : List ℕ → Named
first_device job = named_by (field job 10)

abbrev pub second_device : List ℕ → Named
second_device job = named_by (field job 12)

abbrev pub loss_named : List ℕ → Option Lost
loss_named job = loss_of (first_device job) (second_device job)

abbrev pub stripe_of : List ℕ → List ℕ
stripe_of job = drop 14 job

-- two jobs that differ in the order of their device codes alone
pub record Exchanged (job other : List ℕ) : Type 0 where
  pub lengths : length job ≡ length other
  pub front : take 10 job ≡ take 10 other
  pub first : field job 10 ≡ field other 12
  pub second : field job 12 ≡ field other 10
  pub stripes : stripe_of job ≡ stripe_of other
