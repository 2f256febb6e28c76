-- Rebuild of a column, over any lawful code: it changes the named devices alone, its result meets the equations used, and it is the only
-- one that does.
-- Assumes nothing.
use mathlib.Core.Path.{◌≡◌, refl, sym, ap, subst, ◌∙◌}
use mathlib.Core.Logic.{◌≢◌}
use Prim.Native.Nat.{ℕ, ◌+◌, ◌^◌, ◌≤◌, ◌<◌}
use native.Mathlib.Omega.{arith}
use native.Mathlib.Decide.{ℕ_discrete}
use lib.Dec.{eqb}
use lib.Pow.{pow_pos}
use Rattle.gf256.specs.Field.{sum}
use Rattle.gf256.proofs.Laws.{sum_comm, sum_assoc, sum_self, sum_zero, sum_cancel, xor_lt}
use Rattle.column.specs.declared.Device.{Device}
use Rattle.column.specs.declared.Device.TheVariants.{Data, P, Q}
use Rattle.column.specs.declared.Lost.{Lost}
use Rattle.column.specs.declared.Lost.TheVariants.{One, Two}
use Rattle.base.specs.Choice.{choose}
use Rattle.column.specs.Column.{Column, Code, put, role_of, parity_p, parity_q, from_p, from_q, rest_p, rest_q, from_both, new_byte, new_bytes, Encoded, rebuild_column}
use Rattle.column.proofs.Put.{put_same, put_other, put_comm, put_back}
use Rattle.column.proofs.Total.{total_same, total_lt}
use Rattle.column.proofs.Weighted.{Additive, weighted, weighted_put, weighted_outside}
use Rattle.column.specs.Loss.{Known, Spared, KnownLoss, Meets}
use Rattle.column.specs.Lawful.{Lawful, Symbols}
use Rattle.column.proofs.Columns.{put_symbols, encode_encoded, encoded_same, unique}

-- ---- no other device changes
pub rebuild_spares : (code : Code) (n : ℕ) (l : Lost) (c : Column) (r : ℕ) → Spared n l r → rebuild_column code n l c r ≡ c r
rebuild_spares code n (One d) c r s = put_other (role_of n d) (new_byte code n d c) c r s
rebuild_spares code n (Two d e) c r s =
    put_other (role_of n d) (new_bytes code n d e c).first (put (role_of n e) (new_bytes code n d e c).second c) r s.0
    ∙ put_other (role_of n e) (new_bytes code n d e c).second c r s.1

-- data disks, with what is put at a parity's role passed over
behind : (t : ℕ → ℕ → ℕ) (n x v d u : ℕ) (c : Column) → n ≤ d → weighted t n (put x v (put d u c)) ≡ weighted t n (put x v c)
behind t n x v d u c h = total_same n (λ k p. ap (λ (s : ℕ). t k (choose (eqb k x) v s)) (put_other d u c k (omega arith)))

-- a + (b + a) is b
pub around : (a b : ℕ) → sum a (sum b a) ≡ b
around a b = ap (sum a) (sum_comm b a) ∙ sum_cancel a b

module _ (code : Code) (w m : ℕ) (laws : Lawful code w m) (n : ℕ) (few : n ≤ m) where
  identity : Additive (λ k x. x)
  identity k x y = refl

  -- ---- the bytes are symbols
  pub parity_p_lt : (c : Column) → Symbols w c → parity_p n c < 2 ^ w
  parity_p_lt c h = total_lt n w c (λ k p. h k)

  pub parity_q_lt : (c : Column) → Symbols w c → parity_q code n c < 2 ^ w
  parity_q_lt c h = total_lt n w (λ k. code.act k (c k)) (λ k p. laws.act_closed k (c k) (h k))

  cleared : (x : ℕ) (c : Column) → Symbols w c → Symbols w (put x 0 c)
  cleared x c h = put_symbols w x 0 c (pow_pos w) h

  from_p_lt : (x : ℕ) (c : Column) → Symbols w c → from_p n x c < 2 ^ w
  from_p_lt x c h = xor_lt w (c n) (parity_p n (put x 0 c)) (h n) (parity_p_lt (put x 0 c) (cleared x c h))

  from_q_lt : (x : ℕ) (c : Column) → Symbols w c → from_q code n x c < 2 ^ w
  from_q_lt x c h =
      laws.undo_closed x (sum (c (n + 1)) (parity_q code n (put x 0 c)))
      (xor_lt w (c (n + 1)) (parity_q code n (put x 0 c)) (h (n + 1)) (parity_q_lt (put x 0 c) (cleared x c h)))

  rest_p_lt : (x y : ℕ) (c : Column) → Symbols w c → rest_p n x y c < 2 ^ w
  rest_p_lt x y c h =
      xor_lt w (c n) (parity_p n (put x 0 (put y 0 c))) (h n) (parity_p_lt (put x 0 (put y 0 c)) (cleared x (put y 0 c) (cleared y c h)))

  rest_q_lt : (x y : ℕ) (c : Column) → Symbols w c → rest_q code n x y c < 2 ^ w
  rest_q_lt x y c h =
      xor_lt w (c (n + 1)) (parity_q code n (put x 0 (put y 0 c))) (h (n + 1)) (parity_q_lt (put x 0 (put y 0 c)) (cleared x (put y 0 c) (cleared y c h)))

  from_both_lt : (x y : ℕ) (c : Column) → Symbols w c → from_both code n x y c < 2 ^ w
  from_both_lt x y c h = laws.split_closed x y (rest_p n x y c) (rest_q code n x y c) (rest_p_lt x y c h) (rest_q_lt x y c h)

  new_byte_lt : (d : Device) (c : Column) → Symbols w c → new_byte code n d c < 2 ^ w
  new_byte_lt (Data x) c h = from_p_lt x c h
  new_byte_lt P c h = parity_p_lt c h
  new_byte_lt Q c h = parity_q_lt c h

  data_and_p_lt : (x : ℕ) (c : Column) → Symbols w c → parity_p n (put x (from_q code n x c) c) < 2 ^ w
  data_and_p_lt x c h = parity_p_lt (put x (from_q code n x c) c) (put_symbols w x (from_q code n x c) c (from_q_lt x c h) h)

  data_and_q_lt : (x : ℕ) (c : Column) → Symbols w c → parity_q code n (put x (from_p n x c) c) < 2 ^ w
  data_and_q_lt x c h = parity_q_lt (put x (from_p n x c) c) (put_symbols w x (from_p n x c) c (from_p_lt x c h) h)

  new_bytes_lt : (d e : Device) (c : Column) → Symbols w c → ((new_bytes code n d e c).first < 2 ^ w) × ((new_bytes code n d e c).second < 2 ^ w)
  new_bytes_lt (Data x) (Data y) c h = (from_both_lt x y c h, xor_lt w (rest_p n x y c) (from_both code n x y c) (rest_p_lt x y c h) (from_both_lt x y c h))
  new_bytes_lt (Data x) P c h = (from_q_lt x c h, data_and_p_lt x c h)
  new_bytes_lt (Data x) Q c h = (from_p_lt x c h, data_and_q_lt x c h)
  new_bytes_lt P (Data x) c h = (data_and_p_lt x c h, from_q_lt x c h)
  new_bytes_lt P P c h = (parity_p_lt c h, parity_p_lt c h)
  new_bytes_lt P Q c h = (parity_p_lt c h, parity_q_lt c h)
  new_bytes_lt Q (Data x) c h = (data_and_q_lt x c h, from_p_lt x c h)
  new_bytes_lt Q P c h = (parity_q_lt c h, parity_p_lt c h)
  new_bytes_lt Q Q c h = (parity_q_lt c h, parity_q_lt c h)

  pub rebuild_symbols : (l : Lost) (c : Column) → Symbols w c → Symbols w (rebuild_column code n l c)
  rebuild_symbols (One d) c h = put_symbols w (role_of n d) (new_byte code n d c) c (new_byte_lt d c h) h
  rebuild_symbols (Two d e) c h =
      put_symbols w (role_of n d) (new_bytes code n d e c).first (put (role_of n e) (new_bytes code n d e c).second c) (new_bytes_lt d e c h).0
      (put_symbols w (role_of n e) (new_bytes code n d e c).second c (new_bytes_lt d e c h).1 h)

  -- ---- the result meets the equations used
  -- disk x from an equation with weights t and stored value s
  from_equation : (t : ℕ → ℕ → ℕ) → Additive t → (x v s : ℕ) (c : Column) → x < n → t x v ≡ sum s (weighted t n (put x 0 c)) → weighted t n (put x v c) ≡ s
  from_equation t add x v s c hx e =
      weighted_put t add n c x v hx ∙ ap (sum (weighted t n (put x 0 c))) e ∙ around (weighted t n (put x 0 c)) s

  data_and_p_lem : (x : ℕ) (c : Column) → Symbols w c → x < n → Encoded code n (rebuild_column code n (Two (Data x) P) c)
  data_and_p_lem x c h hx =
      record {
        first = put_other x d (put n p c) n (omega arith) ∙ put_same n p c ∙ sym (behind (λ k v. v) n x d n p c (omega arith));
        second =
            put_other x d (put n p c) (n + 1) (omega arith)
            ∙ put_other n p c (n + 1) (omega arith)
            ∙ sym
            (behind code.act n x d n p c (omega arith)
            ∙ from_equation code.act laws.act_sum x d (c (n + 1)) c hx
            (laws.undo_act x (sum (c (n + 1)) (parity_q code n (put x 0 c))) (omega arith)
            (xor_lt w (c (n + 1)) (parity_q code n (put x 0 c)) (h (n + 1)) (parity_q_lt (put x 0 c) (cleared x c h)))));
      }
    where
      d : ℕ
      d = from_q code n x c

      p : ℕ
      p = parity_p n (put x d c)

  data_and_q_lem : (x : ℕ) (c : Column) → x < n → Encoded code n (rebuild_column code n (Two (Data x) Q) c)
  data_and_q_lem x c hx =
      record {
        first =
            put_other x d (put (n + 1) q c) n (omega arith)
            ∙ put_other (n + 1) q c n (omega arith)
            ∙ sym (behind (λ k v. v) n x d (n + 1) q c (omega arith) ∙ from_equation (λ k v. v) identity x d (c n) c hx refl);
        second = put_other x d (put (n + 1) q c) (n + 1) (omega arith) ∙ put_same (n + 1) q c ∙ sym (behind code.act n x d (n + 1) q c (omega arith));
      }
    where
      d : ℕ
      d = from_p n x c

      q : ℕ
      q = parity_q code n (put x d c)

  -- two data symbols apart from the others
  apart : (t : ℕ → ℕ → ℕ) → Additive t → (x y u v : ℕ) (c : Column) → x < n → y < n → x ≢ y
      → weighted t n (put x u (put y v c)) ≡ sum (weighted t n (put x 0 (put y 0 c))) (sum (t y v) (t x u))
  apart t add x y u v c hx hy ne =
      weighted_put t add n (put y v c) x u hx
      ∙ ap (λ (s : ℕ). sum s (t x u)) (ap (weighted t n) (put_comm x y 0 v c ne) ∙ weighted_put t add n (put x 0 c) y v hy ∙ ap (λ (s : ℕ). sum s (t y v)) (ap (weighted t n) (put_comm y x 0 0 c (λ e. ne (sym e)))))
      ∙ sum_assoc (weighted t n (put x 0 (put y 0 c))) (t y v) (t x u)

  two_data_lem : (x y : ℕ) (c : Column) → Symbols w c → x < n → y < n → x ≢ y → Encoded code n (rebuild_column code n (Two (Data x) (Data y)) c)
  two_data_lem x y c h hx hy ne =
      record {
        first =
            outside n (omega arith)
            ∙ sym
            (apart (λ k v. v) identity x y d e c hx hy ne
            ∙ ap (sum (parity_p n (put x 0 (put y 0 c)))) (sum_assoc (rest_p n x y c) d d ∙ ap (sum (rest_p n x y c)) (sum_self d) ∙ sum_zero (rest_p n x y c))
            ∙ around (parity_p n (put x 0 (put y 0 c))) (c n));
        second =
            outside (n + 1) (omega arith)
            ∙ sym
            (apart code.act laws.act_sum x y d e c hx hy ne
            ∙ ap (sum (parity_q code n (put x 0 (put y 0 c)))) (sum_comm (code.act y e) (code.act x d) ∙ laws.split_act x y (rest_p n x y c) (rest_q code n x y c) (omega arith) (omega arith) ne (rest_p_lt x y c h) (rest_q_lt x y c h))
            ∙ around (parity_q code n (put x 0 (put y 0 c))) (c (n + 1)));
      }
    where
      d : ℕ
      d = from_both code n x y c

      e : ℕ
      e = sum (rest_p n x y c) d

      outside : (r : ℕ) → n ≤ r → put x d (put y e c) r ≡ c r
      outside r p = put_other x d (put y e c) r (omega arith) ∙ put_other y e c r (omega arith)

  pub rebuild_meets : (l : Lost) (c : Column) → Symbols w c → KnownLoss n l → Meets code n l (rebuild_column code n l c)
  rebuild_meets (One (Data x)) c h s =
      put_other x (from_p n x c) c n (omega arith) ∙ sym (from_equation (λ k v. v) identity x (from_p n x c) (c n) c s refl)
  rebuild_meets (One P) c h s = put_same n (parity_p n c) c ∙ sym (weighted_outside (λ k v. v) identity n c n (parity_p n c) (omega arith))
  rebuild_meets (One Q) c h s =
      put_same (n + 1) (parity_q code n c) c ∙ sym (weighted_outside code.act laws.act_sum n c (n + 1) (parity_q code n c) (omega arith))
  rebuild_meets (Two (Data x) (Data y)) c h s = two_data_lem x y c h s.0 s.1 s.2
  rebuild_meets (Two (Data x) P) c h s = data_and_p_lem x c h s.0
  rebuild_meets (Two (Data x) Q) c h s = data_and_q_lem x c s.0
  rebuild_meets (Two P (Data x)) c h s =
      subst (Encoded code n) (put_comm x n (from_q code n x c) (parity_p n (put x (from_q code n x c) c)) c (λ e. s.2 (sym e))) (data_and_p_lem x c h s.1)
  rebuild_meets (Two P P) c h s = absurd (s.2 refl)
  rebuild_meets (Two P Q) c h s = encode_encoded code w m laws n few c
  rebuild_meets (Two Q (Data x)) c h s =
      subst (Encoded code n) (put_comm x (n + 1) (from_p n x c) (parity_q code n (put x (from_p n x c) c)) c (λ e. s.2 (sym e))) (data_and_q_lem x c s.1)
  rebuild_meets (Two Q P) c h s = subst (Encoded code n) (put_comm n (n + 1) (parity_p n c) (parity_q code n c) c (omega arith)) (encode_encoded code w m laws n few c)
  rebuild_meets (Two Q Q) c h s = absurd (s.2 refl)

  -- ---- and is the only one that does, with the survivors
  agree_or_named : (d : ℕ) (e f : Column) → e d ≡ f d → ((r : ℕ) → r < n + 2 → r ≢ d → e r ≡ f r) → (r : ℕ) → r < n + 2 → e r ≡ f r
  agree_or_named d e f here there r hr = at (ℕ_discrete r d)
    where
      at : Dec (r ≡ d) → e r ≡ f r
      at (yes p) = rw p here
      at (no p) = there r hr p

  module _ (c e : Column) where
    -- the survivors of a loss of disk x say what stood there
    only_data : (x : ℕ) → x < n → ((r : ℕ) → r < n + 2 → r ≢ x → e r ≡ c r) → e n ≡ parity_p n e → e x ≡ from_p n x c
    only_data x hx agree meets =
        sym (sum_cancel (parity_p n (put x 0 e)) (e x))
        ∙ ap (sum (parity_p n (put x 0 e))) (sym (weighted_put (λ k v. v) identity n e x (e x) hx) ∙ ap (parity_p n) (put_back x e) ∙ sym meets ∙ agree n (omega arith) (omega arith))
        ∙ sum_comm (parity_p n (put x 0 e)) (c n)
        ∙ ap (sum (c n)) (total_same n (λ k p. others k p (ℕ_discrete k x)))
      where
        others : (k : ℕ) → k < n → Dec (k ≡ x) → put x 0 e k ≡ put x 0 c k
        others k p (yes q) = rw q (put_same x 0 e ∙ sym (put_same x 0 c))
        others k p (no q) = put_other x 0 e k q ∙ agree k (omega arith) q ∙ sym (put_other x 0 c k q)

    pub rebuild_only : (l : Lost) → Symbols w c → Symbols w e → KnownLoss n l → ((r : ℕ) → r < n + 2 → Spared n l r → e r ≡ c r) → Meets code n l e
        → (r : ℕ)
        → r < n + 2
        → e r ≡ rebuild_column code n l c r
    rebuild_only (One (Data x)) hc he s agree meets =
        agree_or_named x e (put x (from_p n x c) c) (only_data x s agree meets ∙ sym (put_same x (from_p n x c) c))
        (λ r hr ne. agree r hr ne ∙ sym (put_other x (from_p n x c) c r ne))
    rebuild_only (One P) hc he s agree meets =
        agree_or_named n e (put n (parity_p n c) c) (meets ∙ total_same n (λ k p. agree k (omega arith) (omega arith)) ∙ sym (put_same n (parity_p n c) c))
        (λ r hr ne. agree r hr ne ∙ sym (put_other n (parity_p n c) c r ne))
    rebuild_only (One Q) hc he s agree meets =
        agree_or_named (n + 1) e (put (n + 1) (parity_q code n c) c)
        (meets ∙ total_same n (λ k p. ap (code.act k) (agree k (omega arith) (omega arith))) ∙ sym (put_same (n + 1) (parity_q code n c) c))
        (λ r hr ne. agree r hr ne ∙ sym (put_other (n + 1) (parity_q code n c) c r ne))
    rebuild_only (Two d f) hc he s agree meets =
        unique code w m laws n few e (rebuild_column code n (Two d f) c) he (rebuild_symbols (Two d f) c hc) meets (rebuild_meets (Two d f) c hc s) (role_of n d) (role_of n f)
        (λ r hr nd nf. agree r hr (nd, nf) ∙ sym (rebuild_spares code n (Two d f) c r (nd, nf)))

  -- an encoded column is left as it is where one device is named
  pub rebuild_fixed : (d : Device) (c : Column) → Known n d → Encoded code n c → rebuild_column code n (One d) c ≡ c
  rebuild_fixed d c known h = ap (λ (v : ℕ). put (role_of n d) v c) (byte d known) ∙ put_back (role_of n d) c
    where
      byte : (d : Device) → Known n d → new_byte code n d c ≡ c (role_of n d)
      byte (Data x) hx = sym (only_data c c x hx (λ r hr ne. refl) h.first)
      byte P known = sym h.first
      byte Q known = sym h.second

  -- what stood on the lost devices has no influence
  pub rebuild_blind : (l : Lost) (c e : Column) → Symbols w c → Symbols w e → KnownLoss n l → ((r : ℕ) → r < n + 2 → Spared n l r → e r ≡ c r)
      → (r : ℕ)
      → r < n + 2
      → rebuild_column code n l e r ≡ rebuild_column code n l c r
  rebuild_blind l c e hc he s agree =
      rebuild_only c (rebuild_column code n l e) l hc (rebuild_symbols l e he) s (λ r hr sp. rebuild_spares code n l e r sp ∙ agree r hr sp) (rebuild_meets l e he s)

  -- nor has the order of the two names
  pub rebuild_order : (d e : Device) (c : Column) → Symbols w c → KnownLoss n (Two d e) → (r : ℕ) → r < n + 2
      → rebuild_column code n (Two e d) c r ≡ rebuild_column code n (Two d e) c r
  rebuild_order d e c hc s =
      rebuild_only c (rebuild_column code n (Two e d) c) (Two d e) hc (rebuild_symbols (Two e d) c hc) s
      (λ r hr sp. rebuild_spares code n (Two e d) c r (sp.1, sp.0))
      (rebuild_meets (Two e d) c hc (s.1, s.0, λ q. s.2 (sym q)))

  pub meets_same : (l : Lost) (c e : Column) → ((r : ℕ) → r < n + 2 → c r ≡ e r) → Meets code n l c → Meets code n l e
  meets_same (One (Data x)) c e same h = sym (same n (omega arith)) ∙ h ∙ total_same n (λ k p. same k (omega arith))
  meets_same (One P) c e same h = sym (same n (omega arith)) ∙ h ∙ total_same n (λ k p. same k (omega arith))
  meets_same (One Q) c e same h = sym (same (n + 1) (omega arith)) ∙ h ∙ total_same n (λ k p. ap (code.act k) (same k (omega arith)))
  meets_same (Two d f) c e same h = encoded_same code w m laws n few c e same h

  -- an encoded column meets whatever a rebuild uses, so a loss and its rebuild bring it back
  pub encoded_meets : (l : Lost) (c : Column) → Encoded code n c → Meets code n l c
  encoded_meets (One (Data x)) c h = h.first
  encoded_meets (One P) c h = h.first
  encoded_meets (One Q) c h = h.second
  encoded_meets (Two d e) c h = h

  pub loss_restored : (l : Lost) (c e : Column) → Symbols w c → Symbols w e → KnownLoss n l → Encoded code n c
      → ((r : ℕ) → r < n + 2 → Spared n l r → c r ≡ e r)
      → (r : ℕ)
      → r < n + 2
      → rebuild_column code n l e r ≡ c r
  loss_restored l c e hc he s enc agree r hr = sym (rebuild_only e c l he hc s agree (encoded_meets l c enc) r hr)
