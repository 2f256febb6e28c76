-- What the summary of a check tells whoever reads it (2026-01).
use Rattle.std.specs.Prelude.{◌≡◌, ◌≢◌, ◌↔◌, ◌⊎◌, List, ℕ}
use Rattle.column.specs.declared.Device.{Device}
use Rattle.column.specs.declared.Lost.TheVariants.{One}
use Rattle.column.specs.Column.{reed_solomon, right_verdict}
use Rattle.column.specs.Loss.{KnownLoss}
use Rattle.shape.specs.declared.Geometry.{Geometry}
use Rattle.verdict.specs.Agreement.{Agree, Differ}
use Rattle.demands.specs.Layout.{layout_of}
use Rattle.demands.specs.Series.{EncodedStripe}
use Rattle.demands.specs.Called.{Slice, Loses}

-- v is the summary of the stripe t, whose columns have the verdicts vs
pub record Summarizes (g : Geometry) (t vs : List ℕ) (v : ℕ) : Type 0 where
  -- it is 0 exactly where the stripe is encoded
  pub clean : (v ≡ 0) ↔ EncodedStripe (layout_of g) reed_solomon t
  -- it is u, other than 0 and 4, exactly where some column's verdict is u and every other column's is 0 or u
  pub agree : (u : ℕ) → u ≢ 0 → u ≢ 4 → (v ≡ u) ↔ Agree u vs
  -- it is 4 exactly where two columns have different verdicts other than 0
  pub differ : (v ≡ 4) ↔ Differ vs
  -- Where a stripe s was encoded and at most one device has changed since, on any columns and to any bytes, it is 0 where nothing changed, and
  -- names that device otherwise.
  pub right : (s : List ℕ) → Slice s → EncodedStripe (layout_of g) reed_solomon s → (d : Device) → KnownLoss g.n (One d) → Loses g (One d) s t
      → ((t ≡ s) × (v ≡ 0)) ⊎ ((t ≢ s) × (v ≡ right_verdict d))
