-- A one-to-one map of the numbers below n to themselves reaches each of them: without the last number it maps those before it, once what it
-- sends to n - 1 goes to the last one's value instead.
-- Assumes nothing.
use mathlib.Core.Path.{◌≡◌, sym, ◌∙◌}
use mathlib.Core.Logic.{◌≢◌}
use Prim.Native.Nat.{ℕ, zero, suc, ◌<◌}
use native.Mathlib.Decide.{ℕ_discrete}
use native.Mathlib.Omega.{arith}

-- f maps the numbers below n one-to-one to numbers below m
pub record OneToOne (n m : ℕ) (f : ℕ → ℕ) : Type 0 where
  pub below : (i : ℕ) → i < n → f i < m
  pub apart : (i j : ℕ) → i < n → j < n → f i ≡ f j → i ≡ j

-- x, but c where it is m
unfoldable moved : (m c x : ℕ) → Dec (x ≡ m) → ℕ
moved m c x (yes e) = c
moved m c x (no n) = x

-- a value that f misses takes the place of the last
fewer : (n m c : ℕ) (f : ℕ → ℕ) → OneToOne n (suc m) f → c < suc m → ((i : ℕ) → i < n → f i ≢ c)
    → OneToOne n m (λ i. moved m c (f i) (ℕ_discrete (f i) m))
unfolding moved
fewer n m c f one hc misses =
    record {
      below = λ i l. small i l (ℕ_discrete (f i) m);
      apart = λ i j li lj. same i j li lj (ℕ_discrete (f i) m) (ℕ_discrete (f j) m);
    }
  where
    small : (i : ℕ) → i < n → (d : Dec (f i ≡ m)) → moved m c (f i) d < m
    small i l (yes e) = let other = misses i l in omega arith
    small i l (no e) = omega (arith, one.below i l)

    same : (i j : ℕ) → i < n → j < n → (d : Dec (f i ≡ m)) (e : Dec (f j ≡ m)) → moved m c (f i) d ≡ moved m c (f j) e → i ≡ j
    same i j li lj (yes d) (yes e) p = one.apart i j li lj (d ∙ sym e)
    same i j li lj (yes d) (no e) p = absurd (misses j lj (sym p))
    same i j li lj (no d) (yes e) p = absurd (misses i li p)
    same i j li lj (no d) (no e) p = one.apart i j li lj p

-- f takes the value c below n
pub record Takes (f : ℕ → ℕ) (n c : ℕ) : Type 0 where
  pub at : ℕ
  pub below : at < n
  pub is : f at ≡ c

pub onto : (n : ℕ) (f : ℕ → ℕ) → OneToOne n n f → (c : ℕ) → c < n → Takes f n c
unfolding moved
onto zero f one c h = absurd (omega arith)
onto (suc n) f one c h = go (onto n g rest) (ℕ_discrete (f n) c) (ℕ_discrete c n)
  where
    g : ℕ → ℕ
    g i = moved n (f n) (f i) (ℕ_discrete (f i) n)

    not_last : (i : ℕ) → i < n → f i ≢ f n
    not_last i l e = let same = one.apart i n (omega arith) (omega arith) e in omega arith

    rest : OneToOne n n g
    rest =
        fewer n n (f n) f record { below = λ i l. one.below i (omega arith); apart = λ i j li lj. one.apart i j (omega arith) (omega arith) }
        (one.below n (omega arith))
        not_last

    go : ((c : ℕ) → c < n → Takes g n c) → Dec (f n ≡ c) → Dec (c ≡ n) → Takes f (suc n) c
    go earlier (yes e) d = record { at = n; below = omega arith; is = e }
    go earlier (no q) (yes d) =
        let t = earlier (f n) (omega (arith, one.below n (omega arith))) in
        record { at = t.at; below = omega (arith, t.below); is = back t.at t.below (ℕ_discrete (f t.at) n) t.is }
      where
        back : (v : ℕ) → v < n → (e : Dec (f v ≡ n)) → moved n (f n) (f v) e ≡ f n → f v ≡ c
        back v l (yes e) p = e ∙ sym d
        back v l (no e) p = absurd (not_last v l p)
    go earlier (no q) (no d) =
        let t = earlier c (omega arith) in
        record { at = t.at; below = omega (arith, t.below); is = back t.at (ℕ_discrete (f t.at) n) t.is }
      where
        back : (v : ℕ) → (e : Dec (f v ≡ n)) → moved n (f n) (f v) e ≡ c → f v ≡ c
        back v (yes e) p = absurd (q p)
        back v (no e) p = p
