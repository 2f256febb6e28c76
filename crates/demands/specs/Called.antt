-- A series as it is called: a chain of the records that the contracts of write, rebuild and repair give, each on the stripe as the one before left
-- it.
use Rattle.std.specs.Prelude.{◌≡◌, ◌≢◌, List, [], ◌∷◌, ℕ, ◌+◌, ◌<◌, length}
use Rattle.std.specs.Int.{w8}
use prog.Model.{AllFit}
use Rattle.column.specs.declared.Device.{Device}
use Rattle.column.specs.declared.Lost.{Lost}
use Rattle.column.specs.declared.Lost.TheVariants.{One}
use Rattle.column.specs.Column.{reed_solomon}
use Rattle.column.specs.Loss.{Spared, KnownLoss}
use Rattle.shape.specs.declared.Geometry.{Geometry}
use Rattle.std.specs.Prelude.{Some}
use Rattle.shape.specs.Layout.{column}
use Rattle.devices.specs.Codes.{naming_of}
use Rattle.write.specs.Write.{WriteCall}
use Rattle.stripe.specs.Calls.{RebuildCall, RebuildNamedCall, RepairCall}
use Rattle.demands.specs.Layout.{layout_of}
use Rattle.demands.specs.Series.{EncodedStripe, Member, run, All, latest, value_or, Claim}
use Rattle.demands.specs.Members.{write_member, refused_rebuild, loss_member, damage_member, refused_repair, AllowedFrom}

-- what a slice of u8 holds, in the toolchain's words: each of the numbers fits eight bits
abbrev pub Slice : List ℕ → Type 0
Slice = AllFit w8

-- a loss leaves t of s: any bytes on the named devices, and on the others what they held
pub record Loses (g : Geometry) (lost : Lost) (s t : List ℕ) : Type 0 where
  pub bytes : Slice t
  pub long : length t ≡ length s
  pub spared : (i r : ℕ) → i < g.b → r < g.n + 2 → Spared g.n lost r → column g t i r ≡ column g s i r

-- A call that is a member of a series, a loss with its rebuild, or damage with its repair: the stripe before, the member, and the stripe after. A
-- result of 0 is an accepted call.
pub data Step (g : Geometry) (encoded : Type 0) : List ℕ → Member → List ℕ → Type 0 where
  -- any write; an accepted one has the stripe's n and B
  writes : {s t : List ℕ} (h : Geometry) (disk offset : ℕ) (new : List ℕ) (r : ℕ) → Slice new → (r ≡ 0 → h ≡ g) → WriteCall h disk offset new s r t
      → Step g encoded s (write_member (length s) h disk offset new) t
  -- a refused rebuild of any stripe, by devices and by codes
  refuses : {s t : List ℕ} (h : Geometry) (lost : Lost) (r : ℕ) → r ≢ 0 → RebuildCall h lost s r t
      → Step g encoded s (refused_rebuild h (Some lost)) t
  refuses_codes : {s t : List ℕ} (h : Geometry) (first second r : ℕ) → r ≢ 0 → RebuildNamedCall h first second s r t
      → Step g encoded s (refused_rebuild h (naming_of first second)) t
  -- a refused repair of any stripe
  refuses_repair : {s t : List ℕ} (h : Geometry) (r : ℕ) → r ≢ 0 → RepairCall h s r t → Step g encoded s refused_repair t
  -- a loss, where the start is encoded, and the accepted rebuild of just its devices
  rebuilds : {s t : List ℕ} (lost : Lost) (left : List ℕ) → encoded → Loses g lost s left → RebuildCall g lost left 0 t
      → Step g encoded s (loss_member g lost left) t
  rebuilds_codes : {s t : List ℕ} (first second : ℕ) (lost : Lost) (left : List ℕ) → encoded → naming_of first second ≡ Some lost → Loses g lost s left
      → RebuildNamedCall g first second left 0 t
      → Step g encoded s (loss_member g lost left) t
  -- damage of one device, where the start is encoded, and the accepted repair
  repairs : {s t : List ℕ} (d : Device) (left : List ℕ) → encoded → KnownLoss g.n (One d) → Loses g (One d) s left → RepairCall g left 0 t
      → Step g encoded s (damage_member g d left) t

pub data Steps (g : Geometry) (encoded : Type 0) : List ℕ → List Member → List ℕ → Type 0 where
  done : {s : List ℕ} → Steps g encoded s [] s
  next : {s t u : List ℕ} {m : Member} {ms : List Member} → Step g encoded s m t → Steps g encoded t ms u → Steps g encoded s (m ∷ ms) u

-- a series of calls from the stripe s to the stripe t, and the members that they are
abbrev pub Calls : Geometry → List ℕ → List Member → List ℕ → Type 0
Calls g s = Steps g (EncodedStripe (layout_of g) reed_solomon s) s

-- What demand 3 says of such a series. The members may stand in one, and t is what they make of s, so that what `EverySeries` says of
-- them holds of t.
pub record Called (g : Geometry) (s : List ℕ) (ms : List Member) (t : List ℕ) : Type 0 where
  pub allowed : All (AllowedFrom g s) ms
  pub runs : t ≡ run ms s
  pub claim : Claim (layout_of g) reed_solomon s ms t
  pub last_accepted : (k p : ℕ) → k < g.n → p < g.b → column g t p k ≡ value_or (column g s p k) (latest ms k p)
  pub long : length t ≡ length s
  pub bytes : Slice t
  pub ends_encoded : EncodedStripe (layout_of g) reed_solomon s → EncodedStripe (layout_of g) reed_solomon t
