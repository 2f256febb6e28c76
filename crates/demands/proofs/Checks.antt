-- The check over the definition that its contract cites: what an accepted call leaves in the verdict buffer.
-- Each statement is that of `Verdicts` at column i.
-- Assumes nothing.
use mathlib.Core.Path.{◌≡◌, sym, ap, ◌∙◌}
use mathlib.Core.Logic.{◌≢◌, ◌↔◌}
use mathlib.Core.List.{List}
use Prim.Native.Nat.{ℕ, ◌+◌, ◌≤◌, ◌<◌}
use native.Mathlib.Decide.{ℕ_discrete}
use lib.ListN.{length, get_or}
use Rattle.shape.specs.declared.Geometry.{Geometry}
use Rattle.column.specs.declared.Device.{Device}
use Rattle.column.specs.declared.Device.TheVariants.{Data, P, Q}
use Rattle.column.specs.declared.Lost.TheVariants.{One}
use Rattle.column.specs.Column.{Column, put, role_of, Encoded, reed_solomon, verdict, right_verdict}
use Rattle.shape.specs.Layout.{column}
use Rattle.compare.specs.Compare.{verdicts, after_check}
use Rattle.shape.specs.Refusals.{check_refusal}
use Rattle.base.proofs.Refused.{left_done}
use Rattle.base.proofs.Table.{get_d_tabulate}
use Rattle.shape.proofs.Refused.{well_shaped, check_accepted}
use Rattle.column.proofs.Put.{put_same, put_other}
use Rattle.column.specs.Loss.{Spared, KnownLoss}
use Rattle.demands.specs.Series.{Bytes}
use Rattle.demands.specs.Demand2.{SameColumn}
use Rattle.column.specs.Lawful.{Symbols}
use Rattle.demands.proofs.Bytes.{columns_symbols}
use Rattle.column.proofs.Verdicts.{verdict_zero, verdict_p, verdict_q, verdict_data, verdict_local}

-- where the column c was encoded and e differs from it on one device, the verdict on e names that device
pub verdict_right : (n : ℕ) → n ≤ 255 → (c e : Column) → Symbols 8 c → Symbols 8 e → Encoded reed_solomon n c → (d : Device) → KnownLoss n (One d)
    → ((r : ℕ) → r < n + 2 → Spared n (One d) r → e r ≡ c r)
    → e (role_of n d) ≢ c (role_of n d)
    → verdict n e ≡ right_verdict d
verdict_right n few c e hc he h d known others changed =
    verdict_local n e (put x v c) (λ r hr. at r hr (ℕ_discrete r x)) ∙ named d known changed (he x)
  where
    x : ℕ
    x = role_of n d

    v : ℕ
    v = e x

    at : (r : ℕ) → r < n + 2 → Dec (r ≡ x) → e r ≡ put x v c r
    at r hr (yes e) = rw e (sym (put_same x v c))
    at r hr (no m) = others r hr m ∙ sym (put_other x v c r m)

    named : (d : Device) → KnownLoss n (One d) → e (role_of n d) ≢ c (role_of n d) → e (role_of n d) < 256
        → verdict n (put (role_of n d) (e (role_of n d)) c) ≡ right_verdict d
    named (Data z) known changed byte = verdict_data n few c hc h (e z) byte z known changed
    named P known changed byte = verdict_p n few c hc h (e n) byte changed
    named Q known changed byte = verdict_q n few c hc h (e (n + 1)) byte changed

-- and where it differs on none, it is 0
pub verdict_unchanged : (n : ℕ) → n ≤ 255 → (c e : Column) → Encoded reed_solomon n c → ((r : ℕ) → r < n + 2 → e r ≡ c r) → verdict n e ≡ 0
verdict_unchanged n few c e h same = verdict_local n e c same ∙ (verdict_zero n few c).1 h

pub verdict_at_lem : (g : Geometry) (t : List ℕ) (i : ℕ) → i < g.b → get_or (verdicts g t) i 0 ≡ verdict g.n (column g t i)
verdict_at_lem g t i hi = get_d_tabulate g.b (λ i. verdict g.n (column g t i)) i 0 hi

module _ (g : Geometry) (t room : List ℕ) (accepted : check_refusal g (length t) (length room) ≡ 0) (i : ℕ) (hi : i < g.b) where
  few : g.n ≤ 255
  few = (well_shaped g t (check_accepted g (length t) (length room) accepted).0).disks

  -- what stands in the verdict buffer
  after_check_lem : get_or (after_check g t room) i 0 ≡ verdict g.n (column g t i)
  unfolding after_check
  after_check_lem =
      ap (λ (l : List ℕ). get_or l i 0) (left_done (check_refusal g (length t) (length room)) (verdicts g t) room accepted)
      ∙ verdict_at_lem g t i hi

  -- 0 exactly where both equations hold
  pub check_clean : (get_or (after_check g t room) i 0 ≡ 0) ↔ Encoded reed_solomon g.n (column g t i)
  check_clean =
      let zero = verdict_zero g.n few (column g t i) in
      (λ e. zero.0 (sym after_check_lem ∙ e), λ h. after_check_lem ∙ zero.1 h)

  -- where the column of s was encoded and t differs from it there on one device, the verdict names that device; where it doesn't, it is 0
  module _ (s : List ℕ) (h : Encoded reed_solomon g.n (column g s i)) where
    pub check_right : Bytes s → Bytes t → (d : Device) → KnownLoss g.n (One d)
        → ((r : ℕ) → r < g.n + 2 → Spared g.n (One d) r → column g t i r ≡ column g s i r)
        → column g t i (role_of g.n d) ≢ column g s i (role_of g.n d)
        → get_or (after_check g t room) i 0 ≡ right_verdict d
    check_right hs ht d known others changed =
        after_check_lem
        ∙ verdict_right g.n few (column g s i) (column g t i) (columns_symbols g s hs i) (columns_symbols g t ht i) h d known others changed

    pub check_unchanged : SameColumn g i t s → get_or (after_check g t room) i 0 ≡ 0
    check_unchanged same = after_check_lem ∙ verdict_unchanged g.n few (column g s i) (column g t i) h same

-- verdict i depends on column i alone
pub check_local : (g : Geometry) (s t room other : List ℕ) → check_refusal g (length s) (length room) ≡ 0 → check_refusal g (length t) (length other) ≡ 0
    → (i : ℕ)
    → i < g.b
    → SameColumn g i s t
    → get_or (after_check g s room) i 0 ≡ get_or (after_check g t other) i 0
check_local g s t room other accepted also i hi same =
    after_check_lem g s room accepted i hi
    ∙ verdict_local g.n (column g s i) (column g t i) same
    ∙ sym (after_check_lem g t other also i hi)
