-- What a repair promises (2026-02).
use Rattle.std.specs.Prelude.{◌≡◌, ◌⊎◌, List, ℕ, ◌+◌, ◌<◌}
use Rattle.column.specs.declared.Device.{Device}
use Rattle.column.specs.declared.Lost.TheVariants.{One}
use Rattle.column.specs.Column.{reed_solomon, verdict, right_verdict}
use Rattle.column.specs.Loss.{KnownLoss, Spared}
use Rattle.shape.specs.declared.Geometry.{Geometry}
use Rattle.shape.specs.Layout.{column}
use Rattle.verdict.specs.Summary.{summary}
use Rattle.compare.specs.Compare.{verdicts}
use Rattle.stripe.specs.Calls.{RepairCall}
use Rattle.demands.specs.Layout.{layout_of}
use Rattle.demands.specs.Series.{EncodedStripe}
use Rattle.demands.specs.Demand2.{SameColumn}
use Rattle.demands.specs.Called.{Slice, Loses}

-- the summary of s names the device d of the stripe, and t differs from s on d alone
pub record ChangesOne (g : Geometry) (s t : List ℕ) (d : Device) : Type 0 where
  pub known : KnownLoss g.n (One d)
  pub named : summary (verdicts g s) ≡ right_verdict d
  pub spares : (i r : ℕ) → i < g.b → r < g.n + 2 → Spared g.n (One d) r → column g t i r ≡ column g s i r

-- the stripe t that an accepted repair leaves of s
pub record Repaired (g : Geometry) (s t : List ℕ) : Type 0 where
  -- it is encoded
  pub encoded : EncodedStripe (layout_of g) reed_solomon t
  -- nothing changes where the summary is 0, and else no device but the one that it names
  pub changes : ((summary (verdicts g s) ≡ 0) × (t ≡ s)) ⊎ ((d : Device) × ChangesOne g s t d)
  -- a clean column stays
  pub clean : (i : ℕ) → i < g.b → verdict g.n (column g s i) ≡ 0 → SameColumn g i t s
  -- column i depends on column i and the summary alone
  pub local : (u v : List ℕ) → Slice u → RepairCall g u 0 v → summary (verdicts g u) ≡ summary (verdicts g s) → (i : ℕ) → i < g.b → SameColumn g i u s
      → SameColumn g i v t

-- A repair of the stripe t, which answers r and leaves u: where t was an encoded stripe s and at most one device has been altered since, on any
-- columns and with any bytes, it answers 0 and gives s back.
abbrev pub GivesBack : Geometry → List ℕ → ℕ → List ℕ → Type 0
GivesBack g t r u =
    (s : List ℕ) → Slice s → EncodedStripe (layout_of g) reed_solomon s → (d : Device) → KnownLoss g.n (One d) → Loses g (One d) s t
    → (r ≡ 0) × (u ≡ s)
