-- What a series of calls keeps in one column, over any code: P* and Q*. Columns that kept those of one start and have the same data are
-- the same, and one that kept those of an encoded column is encoded. Over a lawful code a write keeps them.
-- Assumes nothing.
use mathlib.Core.Path.{◌≡◌, refl, sym, ap, ap₂, ◌∙◌}
use Prim.Native.Nat.{ℕ, ◌+◌, ◌≤◌, ◌<◌}
use native.Mathlib.Omega.{arith}
use native.Mathlib.Decide.{dec_lt, ℕ_discrete}
use Rattle.gf256.specs.Field.{sum}
use Rattle.gf256.proofs.Laws.{sum_comm, sum_self, sum_cancel, sum_only_zero}
use Rattle.column.specs.Column.{Column, Code, parity_p, parity_q, syndrome_p, syndrome_q, Encoded, write_column}
use Rattle.column.specs.Lawful.{Lawful}
use Rattle.column.proofs.Total.{total_same}
use Rattle.column.proofs.Columns.{write_syndrome_p, write_syndrome_q}

module _ (code : Code) (n : ℕ) where
  -- ---- both equations hold where P* and Q* are zero
  pub encoded_zero : (c : Column) → Encoded code n c → (syndrome_p n c ≡ 0) × (syndrome_q code n c ≡ 0)
  encoded_zero c h = (
    ap (λ (x : ℕ). sum x (parity_p n c)) h.first ∙ sum_self (parity_p n c),
    ap (λ (x : ℕ). sum x (parity_q code n c)) h.second ∙ sum_self (parity_q code n c),
  )

  pub zero_encoded : (c : Column) → syndrome_p n c ≡ 0 → syndrome_q code n c ≡ 0 → Encoded code n c
  zero_encoded c p q = record { first = sum_only_zero (c n) (parity_p n c) p; second = sum_only_zero (c (n + 1)) (parity_q code n c) q }

  -- ---- the column e has the P* and Q* of c
  pub record Kept (c e : Column) : Type 0 where
    pub first : syndrome_p n e ≡ syndrome_p n c
    pub second : syndrome_q code n e ≡ syndrome_q code n c

  pub kept_same : {c e : Column} → ((r : ℕ) → r < n + 2 → e r ≡ c r) → Kept c e
  kept_same same =
      record {
        first = ap₂ sum (same n (omega arith)) (total_same n (λ k p. same k (omega arith)));
        second = ap₂ sum (same (n + 1) (omega arith)) (total_same n (λ k p. ap (code.act k) (same k (omega arith))));
      }

  pub kept_then : {c d e : Column} → Kept c d → Kept d e → Kept c e
  kept_then a b = record { first = b.first ∙ a.first; second = b.second ∙ a.second }

  pub kept_encoded : {c e : Column} → Kept c e → Encoded code n c → Encoded code n e
  kept_encoded {c} {e} kept h = let zeros = encoded_zero c h in zero_encoded e (kept.first ∙ zeros.0) (kept.second ∙ zeros.1)

  -- ---- the stored parities, over any table t of the data
  module _ {c e : Column} (t : Column) (kept : Kept c e) (table : (k : ℕ) → k < n → e k ≡ t k) where
    pub kept_p : e n ≡ sum (parity_p n t) (syndrome_p n c)
    kept_p =
        sym (sum_cancel (parity_p n e) (e n)) ∙ ap₂ sum (total_same n table) (sum_comm (parity_p n e) (e n) ∙ kept.first)

    pub kept_q : e (n + 1) ≡ sum (parity_q code n t) (syndrome_q code n c)
    kept_q =
        sym (sum_cancel (parity_q code n e) (e (n + 1)))
        ∙ ap₂ sum (total_same n (λ k p. ap (code.act k) (table k p))) (sum_comm (parity_q code n e) (e (n + 1)) ∙ kept.second)

  -- the same data make the same column
  pub kept_alike : {c d e : Column} → Kept c d → Kept c e → ((k : ℕ) → k < n → d k ≡ e k) → (r : ℕ) → r < n + 2 → d r ≡ e r
  kept_alike {c} {d} {e} kd ke same r hr = go (dec_lt r n) (ℕ_discrete r n)
    where
      go : Dec (r < n) → Dec (r ≡ n) → d r ≡ e r
      go (yes p) q = same r p
      go (no p) (yes q) = rw q (kept_p e kd same ∙ sym (kept_p e ke (λ k p. refl)))
      go (no p) (no q) =
          let last : r ≡ n + 1 = omega arith in rw last (kept_q e kd same ∙ sym (kept_q e ke (λ k p. refl)))

  pub kept_write : (w m : ℕ) → Lawful code w m → n ≤ m → (c : Column) (k v : ℕ) → k < n → Kept c (write_column code n k v c)
  kept_write w m laws few c k v hk =
      record { first = write_syndrome_p code w m laws n few c k v hk; second = write_syndrome_q code w m laws n few c k v hk }
