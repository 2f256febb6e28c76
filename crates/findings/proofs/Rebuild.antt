-- Two devices of a fit code are determined by what they add to the two equations. The difference of two solutions is a vector that a matrix,
-- or a sum of two, sends to zero, so there is at most one; and a matrix that sends only zero to zero reaches every vector, so there is one.
-- Assumes nothing.
use mathlib.Core.Path.{◌≡◌, refl, sym, ap, ◌∙◌}
use mathlib.Core.Logic.{◌≢◌}
use Prim.Native.Nat.{ℕ, ◌%◌, ◌+◌, ◌<◌}
use native.Mathlib.Omega.{arith}
use lib.Bits.{bit_xor, xor_comm, xor_lt, xor_self, xor_zero_r}
use Rattle.matrix.specs.Matrix.{bit, apply, add, Invertible}
use Rattle.findings.specs.Findings.{Code, X, finding}
use Rattle.findings.specs.Cone.{Cone}
use Rattle.findings.specs.Rebuild.{Device, Word, P, Q, Known}
use Rattle.std.specs.Prelude.{None}
use Rattle.matrix.proofs.Bits.{bits_ext, bit_xor_lem, xor_swap}
use Rattle.matrix.proofs.Linear.{apply_lt, apply_add, apply_sum}
use Rattle.matrix.proofs.Onto.{Takes}
use Rattle.matrix.proofs.Determined.{one_word, two_words, reaches}
use Rattle.findings.proofs.Fit.{fit_cone}

pub fit_one_word : (code : Code) (count : ℕ) → finding code count ≡ None → (i : ℕ) → i < count
    → (a a' : ℕ) → a < 256 → a' < 256 → apply (X code i) a ≡ apply (X code i) a' → a ≡ a'
fit_one_word code count e i l = one_word (X code i) (((fit_cone code count).0 e).each i l)

pub fit_two_words : (code : Code) (count : ℕ) → finding code count ≡ None
    → (i j : ℕ) → i < count → j < count → (i ≡ j → ⊥) → (a b a' b' : ℕ) → a < 256 → b < 256 → a' < 256 → b' < 256
    → bit_xor a b ≡ bit_xor a' b' → bit_xor (apply (X code i) a) (apply (X code j) b) ≡ bit_xor (apply (X code i) a') (apply (X code j) b')
    → (a ≡ a') × (b ≡ b')
fit_two_words code count e i j li lj n = two_words (X code i) (X code j) (((fit_cone code count).0 e).sums i j li lj n)

-- ---- and there are such words
-- u + v = q + w gives u + (w + v) = q
parity_solve : (u v q w : ℕ) → q < 2 → (u + v) % 2 ≡ (q + w) % 2 → (u + (w + v) % 2) % 2 ≡ q
parity_solve u v q w l e = omega arith

solve : (u v q w : ℕ) → bit_xor u v ≡ bit_xor q w → bit_xor u (bit_xor w v) ≡ q
solve u v q w e =
    bits_ext _ _
    (λ c.
    bit_xor_lem u (bit_xor w v) c
    ∙ ap (λ (n : ℕ). (bit u c + n) % 2) (bit_xor_lem w v c)
    ∙ parity_solve (bit u c) (bit v c) (bit q c) (bit w c) (omega arith) (sym (bit_xor_lem u v c) ∙ ap (λ (x : ℕ). bit x c) e ∙ bit_xor_lem q w c))

cancel : (u q : ℕ) → bit_xor u (bit_xor q u) ≡ q
cancel u q = solve u u q q (xor_self u ∙ sym (xor_self q))

-- u + v = q gives v = q + u
other : (u v q : ℕ) → bit_xor u v ≡ q → v ≡ bit_xor q u
other u v q e = sym (xor_comm q u ∙ xor_swap u v q 0 (e ∙ sym (xor_zero_r q)) ∙ xor_zero_r v)

-- what a device that holds a adds to each equation, where both sides are brought to one
abbrev pub in_first : Device → ℕ → ℕ
in_first (Word i) a = a
in_first P a = a
in_first Q a = 0

abbrev pub in_second : Code → Device → ℕ → ℕ
in_second code (Word i) a = apply (X code i) a
in_second code P a = 0
in_second code Q a = a

-- a on device d and b on device e add up to p and q
pub record Sums (code : Code) (d e : Device) (p q a b : ℕ) : Type 0 where
  pub first : bit_xor (in_first d a) (in_first e b) ≡ p
  pub second : bit_xor (in_second code d a) (in_second code e b) ≡ q

pub record Solved (code : Code) (d e : Device) (p q : ℕ) : Type 0 where
  pub a : ℕ
  pub b : ℕ
  pub bytes : (a < 256) × (b < 256)
  pub meets : Sums code d e p q a b
  pub only : (x y : ℕ) → x < 256 → y < 256 → Sums code d e p q x y → (x ≡ a) × (y ≡ b)

module _ (code : Code) (p q : ℕ) (hp : p < 256) (hq : q < 256) where
  solved_back : (d e : Device) → Solved code d e p q → Solved code e d p q
  solved_back d e r =
      record {
        a = r.b;
        b = r.a;
        bytes = (r.bytes.1, r.bytes.0);
        meets = back d e r.a r.b r.meets;
        only = λ x y hx hy m. let same = r.only y x hy hx (back e d x y m) in (same.1, same.0);
      }
    where
      back : (d e : Device) (a b : ℕ) → Sums code d e p q a b → Sums code e d p q b a
      back d e a b m =
          record {
            first = xor_comm (in_first e b) (in_first d a) ∙ m.first;
            second = xor_comm (in_second code e b) (in_second code d a) ∙ m.second;
          }

  both_words : (i j : ℕ) → Invertible (add (X code i) (X code j)) → Solved code (Word i) (Word j) p q
  both_words i j h =
      record {
        a = a;
        b = bit_xor p a;
        bytes = (t.below, xor_lt 8 p a hp t.below);
        meets = meets;
        only = λ x y hx hy m.
            two_words (X code i) (X code j) h x y a (bit_xor p a) hx hy t.below (xor_lt 8 p a hp t.below) (m.first ∙ sym meets.first) (m.second ∙ sym meets.second);
      }
    where
      t : Takes (apply (add (X code i) (X code j))) 256 (bit_xor q (apply (X code j) p))
      t = reaches (add (X code i) (X code j)) h (bit_xor q (apply (X code j) p)) (xor_lt 8 q (apply (X code j) p) hq (apply_lt (X code j) p))

      a : ℕ
      a = t.at

      meets : Sums code (Word i) (Word j) p q a (bit_xor p a)
      meets =
          record {
            first = cancel a p;
            second =
                ap (bit_xor (apply (X code i) a)) (apply_sum (X code j) p a)
                ∙ solve (apply (X code i) a) (apply (X code j) a) q (apply (X code j) p) (sym (apply_add (X code i) (X code j) a) ∙ t.is);
          }

  -- the word by Q, then P
  word_and_p : (i : ℕ) → Invertible (X code i) → Solved code (Word i) P p q
  word_and_p i h =
      let t = reaches (X code i) h q hq in
      record {
        a = t.at;
        b = bit_xor p t.at;
        bytes = (t.below, xor_lt 8 p t.at hp t.below);
        meets = record { first = cancel t.at p; second = xor_zero_r (apply (X code i) t.at) ∙ t.is };
        only = λ x y hx hy m.
            let same : x ≡ t.at = one_word (X code i) h x t.at hx t.below (sym (xor_zero_r (apply (X code i) x)) ∙ m.second ∙ sym t.is) in
            (same, other x y p m.first ∙ ap (bit_xor p) same);
      }

  -- the word by P, then Q
  word_and_q : (i : ℕ) → Solved code (Word i) Q p q
  word_and_q i =
      record {
        a = p;
        b = bit_xor q (apply (X code i) p);
        bytes = (hp, xor_lt 8 q (apply (X code i) p) hq (apply_lt (X code i) p));
        meets = record { first = xor_zero_r p; second = cancel (apply (X code i) p) q };
        only = λ x y hx hy m.
            let same : x ≡ p = sym (xor_zero_r x) ∙ m.first in
            (same, other (apply (X code i) x) y q m.second ∙ ap (λ (a : ℕ). bit_xor q (apply (X code i) a)) same);
      }

  -- both from the words
  p_and_q : Solved code P Q p q
  p_and_q =
      record {
        a = p;
        b = q;
        bytes = (hp, hq);
        meets = record { first = xor_zero_r p; second = refl };
        only = λ x y hx hy m. (sym (xor_zero_r x) ∙ m.first, m.second);
      }

pub pair_solved : (code : Code) (count : ℕ) → finding code count ≡ None → (d e : Device) → Known count d → Known count e → d ≢ e
    → (p q : ℕ)
    → p < 256
    → q < 256
    → Solved code d e p q
pair_solved code count e = go
  where
    cone : Cone code count
    cone = (fit_cone code count).0 e

    go : (d e : Device) → Known count d → Known count e → d ≢ e → (p q : ℕ) → p < 256 → q < 256 → Solved code d e p q
    go (Word i) (Word j) li lj n p q hp hq = both_words code p q hp hq i j (cone.sums i j li lj (λ s. n (ap Word s)))
    go (Word i) P li _ n p q hp hq = word_and_p code p q hp hq i (cone.each i li)
    go (Word i) Q li _ n p q hp hq = word_and_q code p q hp hq i
    go P (Word j) _ lj n p q hp hq = solved_back code p q hp hq (Word j) P (word_and_p code p q hp hq j (cone.each j lj))
    go P P _ _ n p q hp hq = absurd (n refl)
    go P Q _ _ n p q hp hq = p_and_q code p q hp hq
    go Q (Word j) _ lj n p q hp hq = solved_back code p q hp hq (Word j) Q (word_and_q code p q hp hq j)
    go Q P _ _ n p q hp hq = solved_back code p q hp hq P Q (p_and_q code p q hp hq)
    go Q Q _ _ n p q hp hq = absurd (n refl)
