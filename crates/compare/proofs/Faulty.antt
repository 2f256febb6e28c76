-- What the summary of a stripe may be, and the device that one that is not unclear names.
-- Assumes nothing.
use mathlib.Core.Path.{◌≡◌, refl, sym, ap, ◌∙◌}
use mathlib.Core.Logic.{◌⊎◌, inl, inr, ⊎_elim, ⊎_map}
use mathlib.Core.Bool.{false}
use mathlib.Core.List.{List}
use Prim.Native.Nat.{ℕ, ◌+◌, ◌-◌, ◌≤◌, ◌<◌}
use native.Mathlib.Omega.{arith}
use native.Mathlib.Decide.{ℕ_discrete}
use borrow.Author.Tests.{ne_eqb, le-ltb, eqb-false}
use lib.Dec.{eqb}
use Rattle.std.specs.Prelude.{Some}
use Rattle.base.proofs.Choice.{either_false}
use Rattle.base.proofs.Table.{length_tabulate, get_d_tabulate}
use Rattle.column.specs.declared.Device.{Device}
use Rattle.column.specs.declared.Device.TheVariants.{Data, P, Q}
use Rattle.column.specs.Column.{verdict, right_verdict}
use Rattle.column.specs.Loss.{Known}
use Rattle.column.proofs.Verdicts.{verdict_known}
use Rattle.shape.specs.declared.Geometry.{Geometry}
use Rattle.shape.specs.Layout.{column}
use Rattle.verdict.specs.Faulty.{faulty_of}
use Rattle.verdict.specs.Summary.{summary}
use Rattle.verdict.specs.Agreement.{Agree}
use Rattle.verdict.proofs.Agreement.{summary_agree}
use Rattle.compare.specs.Compare.{verdicts}
use Rattle.compare.specs.Repair.{unclear}

-- a summary is at most 4, or names a data disk that the stripe has
module _ (g : Geometry) (s : List ℕ) where
  abbrev v : ℕ
  v = summary (verdicts g s)

  pub summary_known : (v ≤ 4) ⊎ ((16 ≤ v) × (v < 16 + g.n))
  summary_known = go (ℕ_discrete v 0) (ℕ_discrete v 4)
    where
      found : Agree v (verdicts g s) → (v ≤ 4) ⊎ ((16 ≤ v) × (v < 16 + g.n))
      found agree =
          let within = agree.within in
          let is : v ≡ verdict g.n (column g s agree.at) = sym agree.has ∙ get_d_tabulate g.b (λ i. verdict g.n (column g s i)) agree.at 0 (omega (arith, within, length_tabulate g.b (λ i. verdict g.n (column g s i)))) in
          ⊎_map (λ few. omega (arith, few, is)) (λ disk. (omega (arith, disk.0, is), omega (arith, disk.1, is))) (verdict_known g.n (column g s agree.at))

      go : Dec (v ≡ 0) → Dec (v ≡ 4) → (v ≤ 4) ⊎ ((16 ≤ v) × (v < 16 + g.n))
      go (yes e) mixed = inl (omega arith)
      go (no n) (yes e) = inl (omega arith)
      go (no n) (no m) = found ((summary_agree (verdicts g s) v n m).0 refl)

-- one that names a device names it as the verdicts do
pub faulty_right : (d : Device) → faulty_of (right_verdict d) ≡ Some d
faulty_right (Data z) =
    rw (ne_eqb (16 + z) 1 (omega arith), ne_eqb (16 + z) 2 (omega arith), le-ltb (16 + z) 16 (omega arith))
    (ap (λ (k : ℕ). Some (Data k)) (omega arith))
faulty_right P = refl
faulty_right Q = refl

pub clear_right : (d : Device) → unclear (right_verdict d) ≡ false
clear_right (Data z) = rw (ne_eqb (16 + z) 3 (omega arith), ne_eqb (16 + z) 4 (omega arith))
clear_right P = refl
clear_right Q = refl

-- one that is not unclear is 0, or names a device that the stripe has
pub record Names (n v : ℕ) (d : Device) : Type 0 where
  pub known : Known n d
  pub is : v ≡ right_verdict d

pub clear_names : (n v : ℕ) → (v ≤ 4) ⊎ ((16 ≤ v) × (v < 16 + n)) → unclear v ≡ false → (v ≡ 0) ⊎ ((d : Device) × Names n v d)
clear_names n v small clear =
    ⊎_elim (λ few. go few (ℕ_discrete v 0) (ℕ_discrete v 1)) (λ disk. inr (Data (v - 16), record { known = omega (arith, disk.0, disk.1); is = omega (arith, disk.0) })) small
  where
    told : (eqb v 3 ≡ false) × (eqb v 4 ≡ false)
    told = either_false (eqb v 3) (eqb v 4) clear

    go : v ≤ 4 → Dec (v ≡ 0) → Dec (v ≡ 1) → (v ≡ 0) ⊎ ((d : Device) × Names n v d)
    go few (yes e) p = inl e
    go few (no m) (yes e) = inr (P, record { known = tt; is = e })
    go few (no m) (no p) = inr (Q, record { known = tt; is = omega (arith, eqb-false v 3 told.0, eqb-false v 4 told.1) })
