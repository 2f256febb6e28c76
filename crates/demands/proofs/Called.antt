-- Demands 2 and 3 for the calls themselves, from stripes as slices hold them: each call's record gives what its member makes of the stripe, so
-- a chain of calls is a series, and what is proved of series holds of the stripe that it leaves.
-- Assumes nothing.
use mathlib.Core.Path.{◌≡◌, refl, sym, ap, subst, ◌∙◌}
use mathlib.Core.Bool.{Bool, true, false}
use mathlib.Core.List.{List, [], ◌∷◌}
use Prim.Native.Nat.{ℕ, zero, suc, ◌+◌, ◌<◌}
use native.Mathlib.Omega.{arith}
use lib.ListN.{length}
use Rattle.base.specs.Choice.{choose}
use Rattle.base.specs.Refusal.{unless_refused}
use Rattle.base.proofs.Refused.{first_none}
use Rattle.column.specs.declared.Lost.{Lost}
use Rattle.column.specs.declared.Lost.TheVariants.{One}
use Rattle.column.specs.Column.{reed_solomon}
use Rattle.column.specs.Loss.{named, overwrite}
use Rattle.column.proofs.Loss.{spared_of}
use Rattle.shape.specs.declared.Geometry.{Geometry}
use Rattle.std.specs.Prelude.{Option, Some, None}
use Rattle.shape.specs.Layout.{column}
use Rattle.shape.specs.Refusals.{library, shape_refusals, encode_refusal, write_refusal, WellShaped}
use Rattle.devices.specs.Refusals.{rebuild_refusal}
use Rattle.devices.specs.Codes.{naming_of, named_refusal}
use Rattle.shape.proofs.Places.{length_lift, lift_at, by_columns}
use Rattle.shape.proofs.Refused.{well_shaped}
use Rattle.write.specs.Write.{written, after_write}
use Rattle.compare.specs.Repair.{repair_refusal}
use Rattle.stripe.specs.Stripe.{rebuilt, repaired}
use Rattle.stripe.specs.Calls.{after_rebuild, after_repair, rebuilt_by, EncodeCall, RebuildCall, RebuildNamedCall}
use Rattle.stripe.proofs.Repairs.{repaired_long, repair_refused}
use Rattle.demands.specs.Layout.{layout_of}
use Rattle.demands.specs.Series.{Bytes, EncodedStripe, Member, run, All, latest, Claim, EverySeries}
use Rattle.demands.specs.Members.{lose, loss_member, Allowed, write, refused, loss, damage, refused_repair_lem, AllowedFrom}
use Rattle.demands.specs.Demand2.{Rebuilt}
use Rattle.demands.specs.Called.{Slice, Loses, Step, writes, refuses, refuses_codes, refuses_repair, rebuilds, rebuilds_codes, repairs, Steps, done, next, Calls, Called}
use Rattle.demands.proofs.Bytes.{slice_bytes, bytes_slice}
use Rattle.demands.proofs.Demand2.{encode_meets, encode_keeps_data, demand2}
use Rattle.demands.proofs.Demand3.{demand3}

-- ---- one call
unless_long : (k : ℕ) (after before : List ℕ) → length after ≡ length before → length (unless_refused k after before) ≡ length before
unless_long zero after before e = e
unless_long (suc k) after before e = refl

write_long : (h : Geometry) (disk offset : ℕ) (new s : List ℕ) → length (after_write h disk offset new s) ≡ length s
unfolding after_write
write_long h disk offset new s =
    unless_long (write_refusal h (length s) disk offset (length new)) (written h disk offset new s) s (length_lift h _ s)

rebuild_long : (h : Geometry) (lost : Lost) (s : List ℕ) → length (after_rebuild h lost s) ≡ length s
unfolding after_rebuild
rebuild_long h lost s = unless_long (rebuild_refusal h (length s) lost) (rebuilt h lost s) s (length_lift h _ s)

repair_long : (h : Geometry) (s : List ℕ) → length (after_repair h s) ≡ length s
unfolding after_repair
repair_long h s = unless_long (repair_refusal h s) (repaired h s) s (repaired_long h s)

named_long : (h : Geometry) (naming : Option Lost) (s : List ℕ) → length (rebuilt_by h naming s) ≡ length s
named_long h (Some lost) s = rebuild_long h lost s
named_long h None s = refl

-- a stripe with a loss is what `lose` makes of it with the bytes that it was left with
lose_is : (g : Geometry) (lost : Lost) (s t : List ℕ) → WellShaped g s → Loses g lost s t → lose g lost t s ≡ t
lose_is g lost s t shaped loses =
    by_columns g shaped.some (lose g lost t s) t (length_lift g _ s ∙ shaped.whole) (loses.long ∙ shaped.whole)
    (λ i r hi hr. lift_at g (λ i c. overwrite g.n lost (column g t i) c) s shaped.whole hi hr ∙ at i r hi hr (named g.n lost r) refl)
  where
    at : (i r : ℕ) → i < g.b → r < g.n + 2 → (b : Bool) → named g.n lost r ≡ b → choose b (column g t i r) (column g s i r) ≡ column g t i r
    at i r hi hr true e = refl
    at i r hi hr false e = sym (loses.spared i r hi hr (spared_of g.n lost r e))

-- a rebuild by codes that name a loss is a rebuild of that loss
by_codes : (g : Geometry) {first second : ℕ} {lost : Lost} {s : List ℕ} {r : ℕ} {t : List ℕ} → naming_of first second ≡ Some lost
    → RebuildNamedCall g first second s r t
    → RebuildCall g lost s r t
by_codes g {s = s} e call =
    record { result = call.result ∙ ap (named_refusal g (length s)) e; stripe = call.stripe ∙ ap (λ (n : Option Lost). rebuilt_by g n s) e }

module _ (g : Geometry) (encoded : Type 0) where
  step_runs : {s t : List ℕ} {m : Member} → WellShaped g s → Step g encoded s m t → t ≡ m.runs s
  step_runs shaped (writes h disk offset new r hn same call) = call.stripe
  step_runs shaped (refuses h lost r n call) = call.stripe
  step_runs shaped (refuses_codes h first second r n call) = call.stripe
  step_runs {s} shaped (rebuilds lost left enc loses call) = call.stripe ∙ ap (after_rebuild g lost) (sym (lose_is g lost s left shaped loses))
  step_runs {s} shaped (rebuilds_codes first second lost left enc named loses call) =
      (by_codes g named call).stripe ∙ ap (after_rebuild g lost) (sym (lose_is g lost s left shaped loses))
  step_runs {s} shaped (refuses_repair h r n call) = call.stripe ∙ repair_refused h s (λ e. n (call.result ∙ e))
  step_runs {s} shaped (repairs d left enc known loses call) = call.stripe ∙ ap (after_repair g) (sym (lose_is g (One d) s left shaped loses))

  step_long : {s t : List ℕ} {m : Member} → Step g encoded s m t → length t ≡ length s
  step_long {s} (writes h disk offset new r hn same call) = ap length call.stripe ∙ write_long h disk offset new s
  step_long {s} (refuses h lost r n call) = ap length call.stripe ∙ rebuild_long h lost s
  step_long {s} (refuses_codes h first second r n call) = ap length call.stripe ∙ named_long h (naming_of first second) s
  step_long {s} (rebuilds lost left enc loses call) = ap length call.stripe ∙ rebuild_long g lost left ∙ loses.long
  step_long {s} (rebuilds_codes first second lost left enc named loses call) =
      ap length call.stripe ∙ named_long g (naming_of first second) left ∙ loses.long
  step_long {s} (refuses_repair h r n call) = ap length call.stripe ∙ repair_long h s
  step_long (repairs d left enc known loses call) = ap length call.stripe ∙ repair_long g left ∙ loses.long

  loss_allowed : {s t : List ℕ} (lost : Lost) (left : List ℕ) → encoded → Loses g lost s left → RebuildCall g lost left 0 t
      → Allowed g (length s) encoded (loss_member g lost left)
  loss_allowed lost left enc loses call =
      loss lost left (slice_bytes left loses.bytes) (ap (λ (n : ℕ). rebuild_refusal g n lost) (sym loses.long) ∙ sym call.result) enc

  pub step_allowed : {s t : List ℕ} {m : Member} → Step g encoded s m t → Allowed g (length s) encoded m
  step_allowed (writes h disk offset new r hn same call) = write h disk offset new (slice_bytes new hn) (λ e. same (call.result ∙ e))
  step_allowed (refuses h lost r n call) = refused h (Some lost) (λ e. n (call.result ∙ e))
  step_allowed (refuses_codes h first second r n call) = refused h (naming_of first second) (λ e. n (call.result ∙ e))
  step_allowed (rebuilds lost left enc loses call) = loss_allowed lost left enc loses call
  step_allowed (rebuilds_codes first second lost left enc named loses call) = loss_allowed lost left enc loses (by_codes g named call)
  step_allowed (refuses_repair h r n call) = refused_repair_lem
  step_allowed (repairs d left enc known loses call) = damage d left (slice_bytes left loses.bytes) known enc

  -- ---- a chain of them, from any stripe that is as long as the first
  chain_runs : {s t : List ℕ} {ms : List Member} (len : ℕ) → encode_refusal g len ≡ 0 → length s ≡ len → Steps g encoded s ms t
      → (t ≡ run ms s) × All (Allowed g len encoded) ms
  chain_runs len fits long done = (refl, tt)
  chain_runs len fits long (next {s = s} {m = m} {ms = ms} step rest) =
      let later = chain_runs len fits (step_long step ∙ long) rest in (
        later.0 ∙ ap (run ms) (step_runs (well_shaped g s (ap (encode_refusal g) long ∙ fits)) step),
        (subst (λ (n : ℕ). Allowed g n encoded m) long (step_allowed step), later.1),
      )

-- ---- demand 2
module _ (g : Geometry) (s : List ℕ) {r : ℕ} {t : List ℕ} (accepted : r ≡ 0) where
  pub encode_called : EncodeCall g s r t → EncodedStripe (layout_of g) reed_solomon t × ((i k : ℕ) → i < g.b → k < g.n → column g t i k ≡ column g s i k)
  encode_called call =
      let fits = sym call.result ∙ accepted in
      subst
      (λ (l : List ℕ). EncodedStripe (layout_of g) reed_solomon l × ((i k : ℕ) → i < g.b → k < g.n → column g l i k ≡ column g s i k))
      (sym call.stripe)
      (encode_meets g s fits, encode_keeps_data g s fits)

  module _ (slice : Slice s) where
    pub demand2_called : (lost : Lost) → RebuildCall g lost s r t → Rebuilt g lost s t
    demand2_called lost call = subst (Rebuilt g lost s) (sym call.stripe) (demand2 g lost s (slice_bytes s slice) (sym call.result ∙ accepted))

    -- by codes: they name a loss
    pub demand2_by_codes : (first second : ℕ) → RebuildNamedCall g first second s r t → (lost : Lost) × (naming_of first second ≡ Some lost) × Rebuilt g lost s t
    demand2_by_codes first second call = go (naming_of first second) refl (sym call.result ∙ accepted)
      where
        go : (naming : Option Lost) → naming_of first second ≡ naming → named_refusal g (length s) naming ≡ 0
            → (lost : Lost) × (naming_of first second ≡ Some lost) × Rebuilt g lost s t
        go (Some lost) e none = (lost, e, demand2_called lost (by_codes g e call))
        go None e none =
            let four : ◌≡◌ {A = ℕ} 4 0 =
            (first_none (shape_refusals library g (length s)) (record { number = 4; applies = true } ∷ record { number = 5; applies = false } ∷ []) refl none).1
            in
            absurd (omega arith)

-- ---- demand 3
module _ (g : Geometry) (s : List ℕ) (slice : Slice s) (fits : encode_refusal g (length s) ≡ 0) where
  every : EverySeries (layout_of g) reed_solomon s (AllowedFrom g s)
  every = demand3 g s (slice_bytes s slice) fits

  pub demand3_called : {ms : List Member} {t : List ℕ} → Calls g s ms t → Called g s ms t
  demand3_called {ms} {t} calls =
      record {
        allowed = allowed;
        runs = runs;
        claim = subst (Claim (layout_of g) reed_solomon s ms) (sym runs) (every.claim ms allowed);
        last_accepted = λ k p hk hp. ap (λ (l : List ℕ). column g l p k) runs ∙ every.last_accepted ms allowed k p hk hp;
        long = ap length runs ∙ every.series_length ms allowed;
        bytes = bytes_slice t (subst Bytes (sym runs) (every.series_bytes ms allowed));
        ends_encoded = λ enc. subst (EncodedStripe (layout_of g) reed_solomon) (sym runs) (every.ends_encoded ms allowed enc);
      }
    where
      chain : (t ≡ run ms s) × All (AllowedFrom g s) ms
      chain = chain_runs g (EncodedStripe (layout_of g) reed_solomon s) (length s) fits refl calls

      runs : t ≡ run ms s
      runs = chain.0

      allowed : All (AllowedFrom g s) ms
      allowed = chain.1

  -- two series of calls with the same last values leave the same stripe
  pub calls_alike : {ms ns : List Member} {t u : List ℕ} → Calls g s ms t → Calls g s ns u
      → ((k p : ℕ) → k < g.n → p < g.b → latest ms k p ≡ latest ns k p)
      → t ≡ u
  calls_alike {ms} {ns} one other same =
      let a = demand3_called one in
      let b = demand3_called other in
      a.runs ∙ every.alike ms ns a.allowed b.allowed same ∙ sym b.runs
