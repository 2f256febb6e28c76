-- Repair over the definition that its contract cites: damage of one device of an encoded stripe is mended, and what an accepted repair leaves is
-- encoded, differs on the named device alone and depends on each column and the summary alone. A repair is a rebuild of the named device, so
-- `Rebuild` and `Demand2` say the rest.
-- Assumes nothing.
use mathlib.Core.Path.{◌≡◌, refl, sym, ap, subst, ◌∙◌}
use mathlib.Core.Logic.{◌≢◌, ◌⊎◌, inl, inr, ⊎_elim}
use mathlib.Core.Bool.{true≢false}
use mathlib.Core.List.{List, [], ◌∷◌}
use Prim.Native.Nat.{ℕ, ◌+◌, ◌≤◌, ◌<◌}
use native.Mathlib.Omega.{arith}
use lib.ListN.{length}
use Rattle.base.specs.Choice.{choose}
use Rattle.base.proofs.Refused.{first_passed}
use Rattle.base.proofs.Table.{length_tabulate}
use Rattle.column.specs.declared.Device.{Device}
use Rattle.column.specs.declared.Device.TheVariants.{P}
use Rattle.column.specs.declared.Lost.TheVariants.{One}
use Rattle.column.specs.Column.{Column, reed_solomon, rebuild_column, verdict, right_verdict, mend_column}
use Rattle.column.specs.Lawful.{Symbols}
use Rattle.column.specs.Loss.{KnownLoss}
use Rattle.column.proofs.ReedSolomon.{reed_solomon_lem}
use Rattle.column.proofs.Rebuild.{rebuild_spares, rebuild_blind, encoded_meets}
use Rattle.column.proofs.Columns.{encoded_same}
use Rattle.column.proofs.Mend.{mend_clean, mend_is_rebuild, mend_encoded}
use Rattle.shape.specs.declared.Geometry.{Geometry}
use Rattle.shape.specs.Layout.{column}
use Rattle.shape.specs.Refusals.{library, shape_refusals, encode_refusal, WellShaped}
use Rattle.shape.proofs.Refused.{well_shaped}
use Rattle.devices.proofs.Accepts.{rebuild_accepts}
use Rattle.verdict.specs.Summary.{mixed, summary}
use Rattle.compare.specs.Compare.{verdicts}
use Rattle.compare.specs.Repair.{unclear, refusal9, repair_refusal}
use Rattle.compare.proofs.Faulty.{Names, clear_right}
use Rattle.stripe.specs.Calls.{after_rebuild, after_repair, RepairCall}
use Rattle.stripe.proofs.Repairs.{repair_accepted, repair_clean, repair_names, rebuild_accepted}
use Rattle.demands.specs.Layout.{layout_of}
use Rattle.demands.specs.Series.{EncodedStripe}
use Rattle.demands.specs.Called.{Slice, Loses}
use Rattle.demands.specs.Repair.{Repaired, GivesBack}
use Rattle.demands.proofs.Bytes.{slice_bytes, columns_symbols}
use Rattle.demands.proofs.Accepted.{rebuild_lifts}
use Rattle.demands.proofs.Checks.{verdict_at_lem}
use Rattle.demands.proofs.Demand2.{demand2}
use Rattle.demands.proofs.Summaries.{right_nonzero, summary_summarizes}

-- ---- t is the encoded stripe s with one device altered, on any columns and with any bytes
module _ (g : Geometry) (s : List ℕ) (slice : Slice s) (fits : encode_refusal g (length s) ≡ 0) (encoded : EncodedStripe (layout_of g) reed_solomon s)
    (d : Device) (known : KnownLoss g.n (One d)) (t : List ℕ) (loses : Loses g (One d) s t) where
  also : encode_refusal g (length t) ≡ 0
  also = ap (encode_refusal g) loses.long ∙ fits

  abbrev v : ℕ
  v = summary (verdicts g t)

  told : ((t ≡ s) × (v ≡ 0)) ⊎ (v ≡ right_verdict d)
  told = ⊎_elim inl (λ changed. inr changed.1) ((summary_summarizes g t (well_shaped g t also)).right s slice encoded d known loses)

  pub damage_accepted : repair_refusal g t ≡ 0
  damage_accepted =
      first_passed (shape_refusals library g (length t)) (refusal9 g t ∷ []) refl also
      ∙ ⊎_elim (λ same. ap (λ (v : ℕ). choose (unclear v) 9 0) same.1)
      (λ named. ap (λ (v : ℕ). choose (unclear v) 9 0) named ∙ rw (clear_right d))
      told

  -- a rebuild of that device brings s back, as after a loss
  rebuild_restores : after_rebuild g (One d) t ≡ s
  rebuild_restores =
      sym
      ((demand2 g (One d) t (slice_bytes t loses.bytes) (rebuild_accepts g (length t) also (One d) known)).only s (slice_bytes s slice) (sym loses.long)
      (λ i r hi hr spared. sym (loses.spared i r hi hr spared))
      (λ i hi. encoded_meets reed_solomon 8 255 reed_solomon_lem g.n (well_shaped g s fits).disks (One d) _ (encoded i hi)))

  pub repair_restores : after_repair g t ≡ s
  repair_restores =
      ⊎_elim (λ same. repair_clean g t damage_accepted same.1 ∙ same.0)
      (λ named. repair_names g t damage_accepted d record { known = known; is = named } ∙ rebuild_restores)
      told

  pub damage_rebuilt : after_repair g t ≡ after_rebuild g (One d) t
  damage_rebuilt = repair_restores ∙ sym rebuild_restores

-- the call
module _ (g : Geometry) (t : List ℕ) {r : ℕ} {u : List ℕ} (fits : encode_refusal g (length t) ≡ 0) (call : RepairCall g t r u) where
  pub repair_gives_back : GivesBack g t r u
  repair_gives_back s slice encoded d known loses =
      let before : encode_refusal g (length s) ≡ 0 = ap (encode_refusal g) (sym loses.long) ∙ fits in (
        call.result ∙ damage_accepted g s slice before encoded d known t loses,
        call.stripe ∙ repair_restores g s slice before encoded d known t loses,
      )

  -- an encoded stripe is left as it is
  pub repair_of_encoded : Slice t → EncodedStripe (layout_of g) reed_solomon t → (r ≡ 0) × (u ≡ t)
  repair_of_encoded slice encoded =
      repair_gives_back t slice encoded P tt record { bytes = slice; long = refl; spared = λ i r hi hr spared. refl }

-- ---- an accepted repair of any stripe
right_unmixed : (d : Device) → right_verdict d ≢ mixed
right_unmixed d e = true≢false (sym (ap unclear e) ∙ clear_right d)

-- where the summary names a device, it is rebuilt
repaired_at : (g : Geometry) (s : List ℕ) (accepted : repair_refusal g s ≡ 0) (d : Device) → Names g.n (summary (verdicts g s)) d → (i r : ℕ) → i < g.b
    → r < g.n + 2
    → column g (after_repair g s) i r ≡ rebuild_column reed_solomon g.n (One d) (column g s i) r
repaired_at g s accepted d names i r hi hr =
    ap (λ (l : List ℕ). column g l i r) (repair_names g s accepted d names)
    ∙ (rebuild_lifts g (One d) s (rebuild_accepted g s accepted d names)).columns i r hi hr

module _ (g : Geometry) (s : List ℕ) (slice : Slice s) (accepted : repair_refusal g s ≡ 0) where
  shaped : WellShaped g s
  shaped = well_shaped g s (repair_accepted g s accepted).fits

  -- the summary is 0
  cleanly : summary (verdicts g s) ≡ 0 → Repaired g s (after_repair g s)
  cleanly e =
      let same = repair_clean g s accepted e in
      record {
        encoded = subst (EncodedStripe (layout_of g) reed_solomon) (sym same) ((summary_summarizes g s shaped).clean.0 e);
        changes = inl (e, same);
        clean = λ i hi zero r hr. ap (λ (l : List ℕ). column g l i r) same;
        local = λ u v hu call eq i hi agree r hr.
            ap (λ (l : List ℕ). column g l i r) (call.stripe ∙ repair_clean g u (sym call.result) (eq ∙ e))
            ∙ agree r hr
            ∙ sym (ap (λ (l : List ℕ). column g l i r) same);
      }

  -- it names the device d
  module _ (d : Device) (names : Names g.n (summary (verdicts g s)) d) where
    few : g.n ≤ 255
    few = shaped.disks

    symbols : (t : List ℕ) → Slice t → (i : ℕ) → Symbols 8 (column g t i)
    symbols t ht = columns_symbols g t (slice_bytes t ht)

    mended_at : (i r : ℕ) → i < g.b → r < g.n + 2 → column g (after_repair g s) i r ≡ mend_column g.n d (column g s i) r
    mended_at i r hi hr =
        repaired_at g s accepted d names i r hi hr ∙ sym (ap (λ (c : Column). c r) (mend_is_rebuild g.n few d names.known (column g s i)))

    -- every verdict is 0 or names it too
    each : (i : ℕ) → i < g.b → (verdict g.n (column g s i) ≡ 0) ⊎ (verdict g.n (column g s i) ≡ right_verdict d)
    each i hi =
        let agree = ((summary_summarizes g s shaped).agree (right_verdict d) (right_nonzero d) (right_unmixed d)).0 names.is in
        rw (← verdict_at_lem g s i hi) (agree.others i (omega (arith, length_tabulate g.b (λ i. verdict g.n (column g s i)))))

    named : Repaired g s (after_repair g s)
    named =
        record {
          encoded = λ i hi.
              encoded_same reed_solomon 8 255 reed_solomon_lem g.n few (mend_column g.n d (column g s i)) (column g (after_repair g s) i)
              (λ r hr. sym (mended_at i r hi hr))
              (mend_encoded g.n few (column g s i) (symbols s slice i) d names.known (each i hi));
          changes =
              inr (
                d,
                record {
                  known = names.known;
                  named = names.is;
                  spares = λ i r hi hr spared.
                      repaired_at g s accepted d names i r hi hr ∙ rebuild_spares reed_solomon g.n (One d) (column g s i) r spared;
                },
              );
          clean = λ i hi zero r hr. mended_at i r hi hr ∙ ap (λ (c : Column). c r) (mend_clean g.n d (column g s i) zero);
          local = λ u v hu call eq i hi agree r hr.
              ap (λ (l : List ℕ). column g l i r) call.stripe
              ∙ repaired_at g u (sym call.result) d record { known = names.known; is = eq ∙ names.is } i r hi hr
              ∙ rebuild_blind reed_solomon 8 255 reed_solomon_lem g.n few (One d) (column g s i) (column g u i) (symbols s slice i) (symbols u hu i) names.known (λ q hq spared. agree q hq) r hr
              ∙ sym (repaired_at g s accepted d names i r hi hr);
        }

pub repair_called : (g : Geometry) (s : List ℕ) {t : List ℕ} → Slice s → RepairCall g s 0 t → Repaired g s t
repair_called g s slice call =
    let accepted = sym call.result in
    subst (Repaired g s) (sym call.stripe)
    (⊎_elim (cleanly g s slice accepted) (λ names. named g s slice accepted names.0 names.1) (repair_accepted g s accepted).told)
