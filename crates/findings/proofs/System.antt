-- The system of parity equations of a fit code has one solution for any two lost devices (000, lemma 3.1.2): each equation says that what the
-- lost devices add to it is what the others add up to, and two devices are determined by that.
-- Assumes nothing.
use mathlib.Core.Path.{◌≡◌, refl, sym, ap, ap₂, ◌∙◌}
use mathlib.Core.Logic.{◌≢◌}
use Prim.Native.Nat.{ℕ, zero, suc, ◌<◌}
use native.Mathlib.Decide.{ℕ_discrete, map_dec}
use native.Mathlib.Omega.{arith}
use lib.Bits.{bit_xor, xor_comm, xor_lt, xor_self, xor_zero_r}
use Rattle.matrix.specs.Fold.{fold}
use Rattle.matrix.specs.Matrix.{apply}
use Rattle.findings.specs.Findings.{Code, X, finding}
use Rattle.findings.specs.Rebuild.{Device, Word, P, Q, Known, Held, Bytes, xors, Meets, Survive, Rebuilt, Rebuilds}
use Rattle.std.specs.Prelude.{None}
use Rattle.matrix.proofs.Fold.{fold_ext}
use Rattle.matrix.proofs.Bits.{xor_zero, xor_assoc}
use Rattle.matrix.proofs.Linear.{apply_lt, apply_sum}
use Rattle.findings.proofs.Rebuild.{in_first, in_second, Sums, Solved, pair_solved}

-- ---- sums
-- g is f with 00 at i
one_out : (n : ℕ) (f g : ℕ → ℕ) (i : ℕ) → i < n → g i ≡ 0 → ((k : ℕ) → k ≢ i → g k ≡ f k) → xors n f ≡ bit_xor (f i) (xors n g)
unfolding fold
one_out zero f g i l e same = absurd (omega arith)
one_out (suc n) f g i l e same = go (one_out n f g i) (ℕ_discrete n i)
  where
    go : (i < n → g i ≡ 0 → ((k : ℕ) → k ≢ i → g k ≡ f k) → xors n f ≡ bit_xor (f i) (xors n g)) → Dec (n ≡ i)
        → bit_xor (xors n f) (f n) ≡ bit_xor (f i) (bit_xor (xors n g) (g n))
    go earlier (yes q) =
        xor_comm (xors n f) (f n)
        ∙ ap₂ bit_xor (ap f q) (fold_ext bit_xor 0 n f g (λ k h. sym (same k (λ r. omega arith))) ∙ sym (xor_zero_r (xors n g)) ∙ ap (bit_xor (xors n g)) (sym (ap g q ∙ e)))
    go earlier (no q) =
        ap₂ bit_xor (earlier (omega arith) e same) (sym (same n q)) ∙ xor_assoc (f i) (xors n g) (g n)

xors_lt : (n : ℕ) (f : ℕ → ℕ) → ((k : ℕ) → k < n → f k < 256) → xors n f < 256
unfolding fold
xors_lt zero f h = omega arith
xors_lt (suc n) f h = xor_lt 8 (xors n f) (f n) (xors_lt n f (λ k l. h k (omega arith))) (h n (omega arith))

-- ---- devices
word_p : (i : ℕ) → Word i ≢ P
word_p i e = let z : ◌≡◌ {A = ℕ} 0 1 = cc in omega arith

word_q : (i : ℕ) → Word i ≢ Q
word_q i e = let z : ◌≡◌ {A = ℕ} 0 1 = cc in omega arith

p_q : P ≢ Q
p_q e = let z : ◌≡◌ {A = ℕ} 0 1 = cc in omega arith

word_same : (i j : ℕ) → Word i ≡ Word j → i ≡ j
word_same i j e = cc

same? : (x y : Device) → Dec (x ≡ y)
same? (Word i) (Word j) = map_dec (ap Word) (word_same i j) (ℕ_discrete i j)
same? (Word i) P = no (word_p i)
same? (Word i) Q = no (word_q i)
same? P (Word j) = no (λ e. word_p j (sym e))
same? P P = yes refl
same? P Q = no p_q
same? Q (Word j) = no (λ e. word_q j (sym e))
same? Q P = no (λ e. p_q (sym e))
same? Q Q = yes refl

-- s with a on device d
put : Device → ℕ → Held → Held
put d a s x = elim (same? x d) [ yes e ↦ a | no n ↦ s x ]

put_here : (d : Device) (a : ℕ) (s : Held) (x : Device) → x ≡ d → put d a s x ≡ a
unfolding put
put_here d a s x e = go (same? x d)
  where
    go : (q : Dec (x ≡ d)) → elim q [ yes e ↦ a | no n ↦ s x ] ≡ a
    go (yes q) = refl
    go (no n) = absurd (n e)

put_there : (d : Device) (a : ℕ) (s : Held) (x : Device) → x ≢ d → put d a s x ≡ s x
unfolding put
put_there d a s x n = go (same? x d)
  where
    go : (q : Dec (x ≡ d)) → elim q [ yes e ↦ a | no n ↦ s x ] ≡ s x
    go (yes q) = absurd (n q)
    go (no q) = refl

put_bytes : (count : ℕ) (d : Device) (a : ℕ) (s : Held) → a < 256 → Bytes count s → Bytes count (put d a s)
put_bytes count d a s ha bytes x known = go (same? x d)
  where
    go : Dec (x ≡ d) → put d a s x < 256
    go (yes e) = rw (put_here d a s x e) ha
    go (no n) = rw (put_there d a s x n) (bytes x known)

-- ---- an equation, with both sides brought to one: the words, each times its factor, and the parity R. u is s with 00 on one device
module _ (count : ℕ) (f : ℕ → ℕ → ℕ) (none : (k : ℕ) → f k 0 ≡ 0) (R : Device) (parity : (k : ℕ) → Word k ≢ R) where
  side : Held → ℕ
  side s = bit_xor (xors count (λ k. f k (s (Word k)))) (s R)

  module _ (s u : Held) where
    word_out : (i : ℕ) → i < count → u (Word i) ≡ 0 → ((x : Device) → x ≢ Word i → u x ≡ s x) → side s ≡ bit_xor (f i (s (Word i))) (side u)
    unfolding side
    word_out i l e same =
        ap₂ bit_xor
        (one_out count (λ k. f k (s (Word k))) (λ k. f k (u (Word k))) i l (ap (f i) e ∙ none i) (λ k n. ap (f k) (same (Word k) (λ w. n (word_same k i w)))))
        (sym (same R (λ q. parity i (sym q))))
        ∙ xor_assoc (f i (s (Word i))) (xors count (λ k. f k (u (Word k)))) (u R)

    parity_out : u R ≡ 0 → ((x : Device) → x ≢ R → u x ≡ s x) → side s ≡ bit_xor (s R) (side u)
    unfolding side
    parity_out e same =
        xor_comm (xors count (λ k. f k (s (Word k)))) (s R)
        ∙ ap (bit_xor (s R))
        (fold_ext bit_xor 0 count (λ k. f k (s (Word k))) (λ k. f k (u (Word k))) (λ k l. ap (f k) (sym (same (Word k) (parity k))))
        ∙ sym (xor_zero_r (xors count (λ k. f k (u (Word k)))))
        ∙ ap (bit_xor (xors count (λ k. f k (u (Word k))))) (sym e))

    other_out : (d : Device) → ((k : ℕ) → Word k ≢ d) → R ≢ d → ((x : Device) → x ≢ d → u x ≡ s x) → side s ≡ side u
    unfolding side
    other_out d words differ same =
        ap₂ bit_xor
        (fold_ext bit_xor 0 count (λ k. f k (s (Word k))) (λ k. f k (u (Word k))) (λ k l. ap (f k) (sym (same (Word k) (words k)))))
        (sym (same R differ))

apply_none : (code : Code) (k : ℕ) → apply (X code k) 0 ≡ 0
apply_none code k = apply_sum (X code k) 0 0 ∙ xor_self (apply (X code k) 0)

abbrev side1 : ℕ → Held → ℕ
side1 count = side count (λ k a. a) (λ k. refl) P word_p

abbrev side2 : Code → ℕ → Held → ℕ
side2 code count = side count (λ k. apply (X code k)) (apply_none code) Q word_q

first_out : (count : ℕ) (d : Device) → Known count d → (s u : Held) → u d ≡ 0 → ((x : Device) → x ≢ d → u x ≡ s x)
    → side1 count s ≡ bit_xor (in_first d (s d)) (side1 count u)
first_out count (Word i) l s u e same = word_out count (λ k a. a) (λ k. refl) P word_p s u i l e same
first_out count P l s u e same = parity_out count (λ k a. a) (λ k. refl) P word_p s u e same
first_out count Q l s u e same = other_out count (λ k a. a) (λ k. refl) P word_p s u Q word_q p_q same

second_out : (code : Code) (count : ℕ) (d : Device) → Known count d → (s u : Held) → u d ≡ 0 → ((x : Device) → x ≢ d → u x ≡ s x)
    → side2 code count s ≡ bit_xor (in_second code d (s d)) (side2 code count u)
second_out code count (Word i) l s u e same = word_out count (λ k. apply (X code k)) (apply_none code) Q word_q s u i l e same
second_out code count P l s u e same = other_out count (λ k. apply (X code k)) (apply_none code) Q word_q s u P word_p (λ q. p_q (sym q)) same
second_out code count Q l s u e same = parity_out count (λ k. apply (X code k)) (apply_none code) Q word_q s u e same

-- ---- two lost devices
module _ (count : ℕ) (d e : Device) (hd : Known count d) (he : Known count e) (n : d ≢ e) (s : Held) where
  -- the others alone
  rest : Held
  rest = put d 0 (put e 0 s)

  -- what two devices add, and what the others do
  module _ (total : Held → ℕ) (part : Device → ℕ → ℕ) (out : (d : Device) → Known count d → (s u : Held) → u d ≡ 0 → ((x : Device) → x ≢ d → u x ≡ s x) → total s ≡ bit_xor (part d (s d)) (total u)) where
    expand : (t : Held) → Survive d e s t → total t ≡ bit_xor (bit_xor (part d (t d)) (part e (t e))) (total rest)
    unfolding rest
    expand t survive =
        out d hd t (put d 0 t) (put_here d 0 t d refl) (put_there d 0 t)
        ∙ ap (bit_xor (part d (t d)))
        (out e he (put d 0 t) rest (put_there d 0 (put e 0 s) e (λ q. n (sym q)) ∙ put_here e 0 s e refl) (λ x m. agree x m (same? x d))
        ∙ ap (λ (v : ℕ). bit_xor (part e v) (total rest)) (put_there d 0 t e (λ q. n (sym q))))
        ∙ sym (xor_assoc (part d (t d)) (part e (t e)) (total rest))
      where
        agree : (x : Device) → x ≢ e → Dec (x ≡ d) → rest x ≡ put d 0 t x
        agree x m (yes q) = put_here d 0 (put e 0 s) x q ∙ sym (put_here d 0 t x q)
        agree x m (no q) = put_there d 0 (put e 0 s) x q ∙ put_there e 0 s x m ∙ sym (survive x q m) ∙ sym (put_there d 0 t x q)

  module _ (code : Code) (fit : finding code count ≡ None) (bytes : Bytes count s) where
    rest_bytes : Bytes count rest
    unfolding rest
    rest_bytes = put_bytes count d 0 (put e 0 s) (omega arith) (put_bytes count e 0 s (omega arith) bytes)

    p : ℕ
    p = side1 count rest

    q : ℕ
    q = side2 code count rest

    solved : Solved code d e p q
    unfolding p q side
    solved =
        pair_solved code count fit d e hd he n p q
        (xor_lt 8 (xors count (λ k. rest (Word k))) (rest P) (xors_lt count (λ k. rest (Word k)) (λ k l. rest_bytes (Word k) l)) (rest_bytes P tt))
        (xor_lt 8 (xors count (λ k. apply (X code k) (rest (Word k)))) (rest Q) (xors_lt count (λ k. apply (X code k) (rest (Word k))) (λ k l. apply_lt (X code k) (rest (Word k)))) (rest_bytes Q tt))

    -- a column of the survivors meets both equations just where the lost devices add up to what the others do
    to_sums : (t : Held) → Survive d e s t → Meets code count t → Sums code d e p q (t d) (t e)
    unfolding p q side
    to_sums t survive meets =
        record {
          first =
              xor_zero (bit_xor (in_first d (t d)) (in_first e (t e))) p
              (sym (expand (side1 count) in_first (first_out count) t survive) ∙ ap (λ (v : ℕ). bit_xor v (t P)) (sym meets.first) ∙ xor_self (t P));
          second =
              xor_zero (bit_xor (in_second code d (t d)) (in_second code e (t e))) q
              (sym (expand (side2 code count) (in_second code) (second_out code count) t survive) ∙ ap (λ (v : ℕ). bit_xor v (t Q)) (sym meets.second) ∙ xor_self (t Q));
        }

    from_sums : (t : Held) → Survive d e s t → Sums code d e p q (t d) (t e) → Meets code count t
    unfolding p q side
    from_sums t survive sums =
        record {
          first =
              sym (xor_zero (xors count (λ k. t (Word k))) (t P)
              (expand (side1 count) in_first (first_out count) t survive ∙ ap (λ (v : ℕ). bit_xor v p) sums.first ∙ xor_self p));
          second =
              sym (xor_zero (xors count (λ k. apply (X code k) (t (Word k)))) (t Q)
              (expand (side2 code count) (in_second code) (second_out code count) t survive ∙ ap (λ (v : ℕ). bit_xor v q) sums.second ∙ xor_self q));
        }

    completed : Rebuilt code count d e s
    completed =
        record {
          held = held;
          bytes = put_bytes count d a (put e b s) solved.bytes.0 (put_bytes count e b s solved.bytes.1 bytes);
          survive = survive;
          meets = from_sums held survive record {
            first = ap₂ (λ (x y : ℕ). bit_xor (in_first d x) (in_first e y)) on_d on_e ∙ solved.meets.first;
            second = ap₂ (λ (x y : ℕ). bit_xor (in_second code d x) (in_second code e y)) on_d on_e ∙ solved.meets.second;
          };
          only = λ t ht kept meets x known.
              let same = solved.only (t d) (t e) (ht d hd) (ht e he) (to_sums t kept meets) in
              at t kept same.0 same.1 x (same? x d) (same? x e);
        }
      where
        a : ℕ
        a = solved.a

        b : ℕ
        b = solved.b

        held : Held
        held = put d a (put e b s)

        on_d : held d ≡ a
        on_d = put_here d a (put e b s) d refl

        on_e : held e ≡ b
        on_e = put_there d a (put e b s) e (λ q. n (sym q)) ∙ put_here e b s e refl

        survive : Survive d e s held
        survive x m k = put_there d a (put e b s) x m ∙ put_there e b s x k

        at : (t : Held) → Survive d e s t → t d ≡ a → t e ≡ b → (x : Device) → Dec (x ≡ d) → Dec (x ≡ e) → t x ≡ held x
        at t kept ta tb x (yes q) k = ap t q ∙ ta ∙ sym (ap held q ∙ on_d)
        at t kept ta tb x (no m) (yes k) = ap t k ∙ tb ∙ sym (ap held k ∙ on_e)
        at t kept ta tb x (no m) (no k) = kept x m k ∙ sym (survive x m k)

pub fit_rebuilds : (code : Code) (count : ℕ) → finding code count ≡ None → Rebuilds code count
fit_rebuilds code count fit d e hd he n s bytes = completed count d e hd he n s code fit bytes
