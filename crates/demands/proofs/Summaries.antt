-- The summary tells what `Summarizes` says, of every stripe and so of every check that is done: the laws of `Agreement` at the verdicts of the
-- stripe. Where one device has changed, every verdict is 0 or names it, so the summary is 0 or names it too.
-- Assumes nothing.
use mathlib.Core.Path.{◌≡◌, refl, sym, subst, ◌∙◌}
use mathlib.Core.Logic.{◌≢◌, ◌↔◌, ◌⊎◌, inl, inr, ⊎_elim, ⊎_map}
use mathlib.Core.List.{List}
use Prim.Native.Nat.{ℕ, zero, suc, ◌+◌, ◌<◌}
use native.Mathlib.Nat.{suc-ne-zero}
use native.Mathlib.Omega.{arith}
use native.Mathlib.Decide.{ℕ_discrete}
use lib.ListN.{length, get_or}
use Rattle.base.proofs.Refused.{left_done}
use Rattle.base.proofs.Table.{length_tabulate}
use Rattle.column.specs.declared.Device.{Device}
use Rattle.column.specs.declared.Device.TheVariants.{Data, P, Q}
use Rattle.column.specs.declared.Lost.TheVariants.{One}
use Rattle.column.specs.Column.{role_of, reed_solomon, verdict, right_verdict}
use Rattle.column.specs.Loss.{KnownLoss}
use Rattle.column.proofs.Verdicts.{verdict_zero, verdict_known}
use Rattle.column.proofs.Witnesses.{one_or_spared}
use Rattle.shape.specs.declared.Geometry.{Geometry}
use Rattle.shape.specs.Layout.{column}
use Rattle.shape.specs.Refusals.{check_refusal, WellShaped}
use Rattle.shape.proofs.Places.{by_columns}
use Rattle.shape.proofs.Refused.{well_shaped, check_accepted}
use Rattle.verdict.specs.Summary.{mixed, summary}
use Rattle.verdict.specs.Agreement.{CleanOr}
use Rattle.verdict.proofs.Agreement.{summary_clean_or, summary_clean, summary_agree, summary_differ}
use Rattle.compare.specs.Compare.{verdicts, after_check}
use Rattle.std.specs.Prelude.{Ok}
use Rattle.stripe.specs.Calls.{checked_of, CheckCall}
use Rattle.demands.specs.Layout.{layout_of}
use Rattle.demands.specs.Series.{EncodedStripe}
use Rattle.demands.specs.Demand2.{SameColumn}
use Rattle.demands.specs.Called.{Slice, Loses}
use Rattle.demands.specs.Summary.{Summarizes}
use Rattle.demands.proofs.Bytes.{slice_bytes, columns_symbols}
use Rattle.demands.proofs.Checks.{verdict_right, verdict_unchanged, verdict_at_lem}

pub right_nonzero : (d : Device) → right_verdict d ≢ 0
right_nonzero (Data z) e = absurd (omega arith)
right_nonzero P e = suc-ne-zero 0 e
right_nonzero Q e = suc-ne-zero 1 e

module _ (g : Geometry) (t : List ℕ) (shaped : WellShaped g t) where
  abbrev vs : List ℕ
  vs = verdicts g t

  long : length vs ≡ g.b
  long = length_tabulate g.b (λ i. verdict g.n (column g t i))

  clean : (summary vs ≡ 0) ↔ EncodedStripe (layout_of g) reed_solomon t
  clean = (
    λ e i hi. (verdict_zero g.n shaped.disks (column g t i)).0 (sym (verdict_at_lem g t i hi) ∙ (summary_clean vs).0 e i (omega (arith, long))),
    λ h. (summary_clean vs).1
        (λ i hi.
        let k : i < g.b = omega (arith, long) in verdict_at_lem g t i k ∙ (verdict_zero g.n shaped.disks (column g t i)).1 (h i k)),
  )

  never_mixed : (i : ℕ) → i < length vs → get_or vs i 0 ≢ mixed
  never_mixed i hi e =
      let v = sym (verdict_at_lem g t i (omega (arith, long))) ∙ e in
      ⊎_elim (λ few. absurd (omega arith)) (λ disk. absurd (omega (arith, disk.0))) (verdict_known g.n (column g t i))

  module _ (s : List ℕ) (slice : Slice s) (encoded : EncodedStripe (layout_of g) reed_solomon s) (d : Device) (known : KnownLoss g.n (One d))
      (changes : Loses g (One d) s t) where
    abbrev x : ℕ
    x = role_of g.n d

    same_column : (i : ℕ) → i < g.b → column g t i x ≡ column g s i x → SameColumn g i t s
    same_column i hi e r hr = ⊎_elim (λ f. rw f e) (λ spared. changes.spared i r hi hr spared) (one_or_spared g.n d r)

    -- the verdict on a column, by whether the device has changed there
    by_column : (i : ℕ) → i < g.b → (SameColumn g i t s × (get_or vs i 0 ≡ 0)) ⊎ (get_or vs i 0 ≡ right_verdict d)
    by_column i hi = go (ℕ_discrete (column g t i x) (column g s i x))
      where
        go : Dec (column g t i x ≡ column g s i x) → (SameColumn g i t s × (get_or vs i 0 ≡ 0)) ⊎ (get_or vs i 0 ≡ right_verdict d)
        go (yes e) =
            let same = same_column i hi e in
            inl (same, verdict_at_lem g t i hi ∙ verdict_unchanged g.n shaped.disks (column g s i) (column g t i) (encoded i hi) same)
        go (no n) =
            let before = columns_symbols g s (slice_bytes s slice) i in
            let after = columns_symbols g t (slice_bytes t changes.bytes) i in
            inr
            (verdict_at_lem g t i hi
            ∙ verdict_right g.n shaped.disks (column g s i) (column g t i) before after (encoded i hi) d known
            (λ r. changes.spared i r hi) n)

    right : ((t ≡ s) × (summary vs ≡ 0)) ⊎ ((t ≢ s) × (summary vs ≡ right_verdict d))
    right = go (ℕ_discrete (summary vs) 0)
      where
        unchanged : summary vs ≡ 0 → (i r : ℕ) → i < g.b → r < g.n + 2 → column g t i r ≡ column g s i r
        unchanged e i r hi hr =
            ⊎_elim (λ same. same.0 r hr) (λ named. absurd (right_nonzero d (sym named ∙ (summary_clean vs).0 e i (omega (arith, long)))))
            (by_column i hi)

        each : CleanOr (right_verdict d) vs
        each i hi = ⊎_map (λ same. same.1) (λ named. named) (by_column i (omega (arith, long)))

        go : Dec (summary vs ≡ 0) → ((t ≡ s) × (summary vs ≡ 0)) ⊎ ((t ≢ s) × (summary vs ≡ right_verdict d))
        go (yes e) = inl (by_columns g shaped.some t s shaped.whole (sym changes.long ∙ shaped.whole) (unchanged e), e)
        go (no n) =
            inr (
              λ e. n (clean.1 (subst (EncodedStripe (layout_of g) reed_solomon) (sym e) encoded)),
              ⊎_elim (λ e. absurd (n e)) (λ e. e) (summary_clean_or (right_verdict d) vs each),
            )

  pub summary_summarizes : Summarizes g t (verdicts g t) (summary (verdicts g t))
  summary_summarizes = record { clean = clean; agree = summary_agree vs; differ = summary_differ vs never_mixed; right = right }

-- so does that of a check that is done, with the verdicts that it leaves
pub check_summarizes : (g : Geometry) (t before : List ℕ) {v : ℕ} {room : List ℕ} → CheckCall g t before (Ok v) room → Summarizes g t room v
unfolding after_check
check_summarizes g t before {v} {room} call = go (check_refusal g (length t) (length before)) refl call.result
  where
    go : (k : ℕ) → check_refusal g (length t) (length before) ≡ k → Ok v ≡ checked_of k (summary (verdicts g t)) → Summarizes g t room v
    go zero e done =
        let is : v ≡ summary (verdicts g t) = cc in
        let left = call.room ∙ left_done (check_refusal g (length t) (length before)) (verdicts g t) before e in
        rw (is, left) (summary_summarizes g t (well_shaped g t (check_accepted g (length t) (length before) e).0))
    go (suc k) e refused = let z : ◌≡◌ {A = ℕ} 0 1 = cc in absurd (omega arith)
