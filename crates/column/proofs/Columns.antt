-- The theory of two parities, over any lawful code: one argument about the difference of two columns, which is zero outside two
-- devices, gives every uniqueness; a write keeps P* and Q*.
-- Assumes nothing.
use mathlib.Core.Path.{◌≡◌, refl, sym, ap, ap₂, ◌∙◌}
use mathlib.Core.Logic.{◌≢◌, ◌⊎◌, inl, inr, ⊎_elim}
use Prim.Native.Nat.{ℕ, ◌+◌, ◌^◌, ◌≤◌, ◌<◌}
use native.Mathlib.Omega.{arith}
use native.Mathlib.Decide.{dec_lt, ℕ_discrete}
use lib.Dec.{eqb}
use Rattle.gf256.specs.Field.{sum}
use Rattle.gf256.proofs.Laws.{sum_comm, sum_self, sum_zero, sum_exchange, sum_only_zero, xor_lt}
use Rattle.base.specs.Choice.{choose}
use Rattle.column.specs.Column.{Column, Code, put, parity_p, parity_q, Encoded, encode_column, adjust_column, write_column, syndrome_p, syndrome_q}
use Rattle.column.proofs.Put.{put_same, put_other, put_back}
use Rattle.column.proofs.Total.{total_same}
use Rattle.column.proofs.Weighted.{Additive, weighted, weight_zero, weighted_sum, weighted_none, weighted_only, weighted_put, weighted_change}
use Rattle.column.specs.Lawful.{Lawful, Symbols}

pub put_symbols : (w d v : ℕ) (c : Column) → v < 2 ^ w → Symbols w c → Symbols w (put d v c)
put_symbols w d v c hv hc r = at (ℕ_discrete r d)
  where
    at : Dec (r ≡ d) → put d v c r < 2 ^ w
    at (yes e) = rw (e, put_same d v c) hv
    at (no n) = rw (put_other d v c r n) (hc r)

-- what is added to both terms cancels
both_cancel : (a d b : ℕ) → sum (sum a d) (sum b d) ≡ sum a b
both_cancel a d b = sum_exchange a d b d ∙ ap (sum (sum a b)) (sum_self d) ∙ sum_zero (sum a b)

-- a write depends on the column's devices alone
pub write_same : (code : Code) (n k v : ℕ) (c e : Column) → k < n → ((r : ℕ) → r < n + 2 → c r ≡ e r) → (r : ℕ) → r < n + 2
    → write_column code n k v c r ≡ write_column code n k v e r
write_same code n k v c e hk same r hr =
    let change : sum (c k) v ≡ sum (e k) v = ap (λ (x : ℕ). sum x v) (same k (omega arith)) in
    ap (choose (eqb r k) v)
    (ap₂ (choose (eqb r n)) (ap₂ sum (same n (omega arith)) change)
    (ap₂ (choose (eqb r (n + 1))) (ap₂ sum (same (n + 1) (omega arith)) (ap (code.act k) change)) (same r hr)))

-- two data symbols at most are not zero
weighted_two : (t : ℕ → ℕ → ℕ) → Additive t → (n : ℕ) (c : Column) (x y : ℕ) → x < n → y < n → x ≢ y
    → ((k : ℕ) → k < n → k ≢ x → k ≢ y → c k ≡ 0)
    → weighted t n c ≡ sum (t x (c x)) (t y (c y))
weighted_two t add n c x y hx hy apart others =
    ap (weighted t n) (sym (put_back x c))
    ∙ weighted_put t add n c x (c x) hx
    ∙ ap (λ (s : ℕ). sum s (t x (c x))) (weighted_only t add n (put x 0 c) y hy rest ∙ ap (t y) (put_other x 0 c y (λ e. apart (sym e))))
    ∙ sum_comm (t y (c y)) (t x (c x))
  where
    rest : (k : ℕ) → k < n → k ≢ y → put x 0 c k ≡ 0
    rest k p q = at (ℕ_discrete k x)
      where
        at : Dec (k ≡ x) → put x 0 c k ≡ 0
        at (yes e) = rw (e, put_same x 0 c)
        at (no ne) = put_other x 0 c k ne ∙ others k p ne q

module _ (code : Code) (w m : ℕ) (laws : Lawful code w m) (n : ℕ) (few : n ≤ m) where
  -- P and Q as one statement over their weights
  identity : Additive (λ k x. x)
  identity k x y = refl

  -- the difference of two encoded columns is encoded
  pub difference : (c e : Column) → Encoded code n c → Encoded code n e → Encoded code n (λ r. sum (c r) (e r))
  difference c e hc he =
      record {
        first = ap₂ sum hc.first he.first ∙ sym (weighted_sum (λ k x. x) identity n c e);
        second = ap₂ sum hc.second he.second ∙ sym (weighted_sum code.act laws.act_sum n c e);
      }

  -- an encoded column whose data are zero is zero
  data_zero : (c : Column) → Encoded code n c → ((k : ℕ) → k < n → c k ≡ 0) → (r : ℕ) → r < n + 2 → c r ≡ 0
  data_zero c h none r hr = go (dec_lt r n) (ℕ_discrete r n)
    where
      go : Dec (r < n) → Dec (r ≡ n) → c r ≡ 0
      go (yes p) q = none r p
      go (no p) (yes q) = ap c q ∙ h.first ∙ weighted_none (λ k x. x) identity n c none
      go (no p) (no q) = ap c (omega arith) ∙ h.second ∙ weighted_none code.act laws.act_sum n c none

  module _ (c : Column) (symbols : Symbols w c) (h : Encoded code n c) where
    -- one data symbol at most is not zero, and one of P and Q is
    lone : (x : ℕ) → x < n → ((k : ℕ) → k < n → k ≢ x → c k ≡ 0) → (c n ≡ 0) ⊎ (c (n + 1) ≡ 0) → (k : ℕ) → k < n → c k ≡ 0
    lone x hx others parity k hk = go (ℕ_discrete k x)
      where
        here : c x ≡ 0
        here =
            ⊎_elim (λ e. sym (weighted_only (λ k v. v) identity n c x hx others) ∙ sym h.first ∙ e)
            (λ e. laws.act_only_zero x (c x) (omega arith) (symbols x) (sym (weighted_only code.act laws.act_sum n c x hx others) ∙ sym h.second ∙ e))
            parity

        go : Dec (k ≡ x) → c k ≡ 0
        go (yes e) = rw e here
        go (no ne) = others k hk ne

    -- two data symbols at most are not zero, and P and Q are
    pair : (x y : ℕ) → x < n → y < n → x ≢ y → ((k : ℕ) → k < n → k ≢ x → k ≢ y → c k ≡ 0) → c n ≡ 0 → c (n + 1) ≡ 0
        → (k : ℕ)
        → k < n
        → c k ≡ 0
    pair x y hx hy apart others p q k hk = go (ℕ_discrete k x) (ℕ_discrete k y)
      where
        same : c x ≡ c y
        same = sum_only_zero (c x) (c y) (sym (weighted_two (λ k v. v) identity n c x y hx hy apart others) ∙ sym h.first ∙ p)

        here : c y ≡ 0
        here =
            laws.pair_only_zero x y (c y) (omega arith) (omega arith) apart (symbols y)
            (ap (λ (v : ℕ). sum (code.act x v) (code.act y (c y))) (sym same)
            ∙ sym (weighted_two code.act laws.act_sum n c x y hx hy apart others)
            ∙ sym h.second
            ∙ q)

        go : Dec (k ≡ x) → Dec (k ≡ y) → c k ≡ 0
        go (yes e) f = rw e (same ∙ here)
        go (no e) (yes f) = rw f here
        go (no e) (no f) = others k hk e f

    -- an encoded column that is zero outside two devices is zero
    pub zero_outside : (x y : ℕ) → ((r : ℕ) → r < n + 2 → r ≢ x → r ≢ y → c r ≡ 0) → (r : ℕ) → r < n + 2 → c r ≡ 0
    zero_outside x y outside = data_zero c h (go (dec_lt x n) (dec_lt y n) (ℕ_discrete x y))
      where
        -- beside one data disk only one of P and Q can be named
        parity : (x y : ℕ) → x < n → ((r : ℕ) → r < n + 2 → r ≢ x → r ≢ y → c r ≡ 0) → (c n ≡ 0) ⊎ (c (n + 1) ≡ 0)
        parity x y hx outside = at (ℕ_discrete y n)
          where
            at : Dec (y ≡ n) → (c n ≡ 0) ⊎ (c (n + 1) ≡ 0)
            at (yes e) = inr (outside (n + 1) (omega arith) (omega arith) (omega arith))
            at (no e) = inl (outside n (omega arith) (omega arith) (λ f. e (sym f)))

        go : Dec (x < n) → Dec (y < n) → Dec (x ≡ y) → (k : ℕ) → k < n → c k ≡ 0
        go (yes p) (yes q) (yes e) = lone x p (λ k hk ne. outside k (omega arith) ne (λ f. ne (f ∙ sym e))) (inl (outside n (omega arith) (omega arith) (omega arith)))
        go (yes p) (yes q) (no e) =
            pair x y p q e (λ k hk. outside k (omega arith)) (outside n (omega arith) (omega arith) (omega arith))
            (outside (n + 1) (omega arith) (omega arith) (omega arith))
        go (yes p) (no q) e = lone x p (λ k hk ne. outside k (omega arith) ne (omega arith)) (parity x y p outside)
        go (no p) (yes q) e = lone y q (λ k hk ne. outside k (omega arith) (omega arith) ne) (parity y x q (λ r hr ne nf. outside r hr nf ne))
        go (no p) (no q) e = λ k hk. outside k (omega arith) (omega arith) (omega arith)

  -- two encoded columns that agree outside two devices agree everywhere: the only bytes that fit
  pub unique : (c e : Column) → Symbols w c → Symbols w e → Encoded code n c → Encoded code n e → (x y : ℕ)
      → ((r : ℕ) → r < n + 2 → r ≢ x → r ≢ y → c r ≡ e r)
      → (r : ℕ)
      → r < n + 2
      → c r ≡ e r
  unique c e sc se hc he x y agree r hr =
      sum_only_zero (c r) (e r)
      (zero_outside (λ r. sum (c r) (e r)) (λ r. xor_lt w (c r) (e r) (sc r) (se r)) (difference c e hc he) x y
      (λ r hr nx ny. ap (λ (v : ℕ). sum v (e r)) (agree r hr nx ny) ∙ sum_self (e r))
      r
      hr)

  -- an encoded column stays so where it agrees on every device
  pub encoded_same : (c e : Column) → ((r : ℕ) → r < n + 2 → c r ≡ e r) → Encoded code n c → Encoded code n e
  encoded_same c e same h =
      record {
        first = sym (same n (omega arith)) ∙ h.first ∙ total_same n (λ k p. same k (omega arith));
        second = sym (same (n + 1) (omega arith)) ∙ h.second ∙ total_same n (λ k p. ap (code.act k) (same k (omega arith)));
      }

  -- ---- encode
  pub encode_data : (c : Column) (k : ℕ) → k < n → encode_column code n c k ≡ c k
  encode_data c k h =
      put_other n (parity_p n c) (put (n + 1) (parity_q code n c) c) k (omega arith) ∙ put_other (n + 1) (parity_q code n c) c k (omega arith)

  pub encode_encoded : (c : Column) → Encoded code n (encode_column code n c)
  encode_encoded c =
      record {
        first = put_same n (parity_p n c) (put (n + 1) (parity_q code n c) c) ∙ sym (data_same (λ k x. x));
        second =
            put_other n (parity_p n c) (put (n + 1) (parity_q code n c) c) (n + 1) (omega arith)
            ∙ put_same (n + 1) (parity_q code n c) c
            ∙ sym (data_same code.act);
      }
    where
      data_same : (t : ℕ → ℕ → ℕ) → weighted t n (encode_column code n c) ≡ weighted t n c
      data_same t = total_same n (λ k p. ap (t k) (encode_data c k p))

  pub encode_fixed : (c : Column) → Encoded code n c → encode_column code n c ≡ c
  encode_fixed c h =
      ap₂ (λ (p q : ℕ). put n p (put (n + 1) q c)) (sym h.first) (sym h.second) ∙ ap (put n (c n)) (put_back (n + 1) c) ∙ put_back n c

  -- ---- write: P* and Q* stay, and the data are as asked
  module _ (c : Column) (k v : ℕ) (hk : k < n) where
    abbrev δ : ℕ
    δ = sum (c k) v

    adjust_data : (j : ℕ) → j < n → adjust_column code n k v c j ≡ c j
    adjust_data j hj =
        put_other n (sum (c n) δ) (put (n + 1) (sum (c (n + 1)) (code.act k δ)) c) j (omega arith)
        ∙ put_other (n + 1) (sum (c (n + 1)) (code.act k δ)) c j (omega arith)

    pub write_here : write_column code n k v c k ≡ v
    write_here = put_same k v (adjust_column code n k v c)

    pub write_other : (j : ℕ) → j < n → j ≢ k → write_column code n k v c j ≡ c j
    write_other j hj ne = put_other k v (adjust_column code n k v c) j ne ∙ adjust_data j hj

    write_p : write_column code n k v c n ≡ sum (c n) δ
    write_p =
        put_other k v (adjust_column code n k v c) n (omega arith) ∙ put_same n (sum (c n) δ) (put (n + 1) (sum (c (n + 1)) (code.act k δ)) c)

    write_q : write_column code n k v c (n + 1) ≡ sum (c (n + 1)) (code.act k δ)
    write_q =
        put_other k v (adjust_column code n k v c) (n + 1) (omega arith)
        ∙ put_other n (sum (c n) δ) (put (n + 1) (sum (c (n + 1)) (code.act k δ)) c) (n + 1) (omega arith)
        ∙ put_same (n + 1) (sum (c (n + 1)) (code.act k δ)) c

    -- the sum over the written data is the old one and what changed
    write_weighted : (t : ℕ → ℕ → ℕ) → Additive t → weighted t n (write_column code n k v c) ≡ sum (weighted t n c) (t k δ)
    write_weighted t add =
        weighted_change t add n (adjust_column code n k v c) k v hk
        ∙ ap₂ (λ (s x : ℕ). sum s (t k (sum x v))) (total_same n (λ j p. ap (t j) (adjust_data j p))) (adjust_data k hk)

    pub write_syndrome_p : syndrome_p n (write_column code n k v c) ≡ syndrome_p n c
    write_syndrome_p = ap₂ sum write_p (write_weighted (λ j x. x) identity) ∙ both_cancel (c n) δ (parity_p n c)

    pub write_syndrome_q : syndrome_q code n (write_column code n k v c) ≡ syndrome_q code n c
    write_syndrome_q =
        ap₂ sum write_q (write_weighted code.act laws.act_sum) ∙ both_cancel (c (n + 1)) (code.act k δ) (parity_q code n c)

  -- the symbol that stands there changes nothing
  pub write_back : (c : Column) (k : ℕ) → write_column code n k (c k) c ≡ c
  write_back c k =
      ap (λ (d : ℕ). put k (c k) (put n (sum (c n) d) (put (n + 1) (sum (c (n + 1)) (code.act k d)) c))) (sum_self (c k))
      ∙ ap₂ (λ (p q : ℕ). put k (c k) (put n p (put (n + 1) q c))) (sum_zero (c n))
      (ap (sum (c (n + 1))) (weight_zero code.act laws.act_sum n k) ∙ sum_zero (c (n + 1)))
      ∙ ap (λ (e : Column). put k (c k) (put n (c n) e)) (put_back (n + 1) c)
      ∙ ap (put k (c k)) (put_back n c)
      ∙ put_back k c

  pub write_symbols : (c : Column) (k v : ℕ) → Symbols w c → v < 2 ^ w → Symbols w (write_column code n k v c)
  write_symbols c k v hc hv =
      put_symbols w k v (adjust_column code n k v c) hv
      (put_symbols w n (sum (c n) (sum (c k) v)) (put (n + 1) q c) (xor_lt w (c n) (sum (c k) v) (hc n) change)
      (put_symbols w (n + 1) q c (xor_lt w (c (n + 1)) (code.act k (sum (c k) v)) (hc (n + 1)) (laws.act_closed k (sum (c k) v) change)) hc))
    where
      q : ℕ
      q = sum (c (n + 1)) (code.act k (sum (c k) v))

      change : sum (c k) v < 2 ^ w
      change = xor_lt w (c k) v (hc k) hv
