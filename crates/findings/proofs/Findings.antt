-- What a search in order finds is the first flaw.
-- Assumes nothing.
use mathlib.Core.Path.{◌≡◌, refl, sym, ap, ap₂, subst, ◌∙◌}
use mathlib.Core.Bool.{Bool, true, false, ◌&&◌}
use mathlib.Core.List.{List}
use Prim.Native.Nat.{ℕ, ◌+◌, ◌-◌, ◌<◌, ◌≤◌, zero-le}
use native.Mathlib.Omega.{arith}
use borrow.Author.Tests.{ltb-true, lt-ltb}
use denote.Param.Members.{Mut, Called}
use lib.Dec.{ltb}
use lib.ListN.{length, get_or}
use Rattle.std.specs.Prelude.{Option, Some, None}
use Rattle.std.specs.Option.{option_map, option_or, MatchOption, IsSomeAnd}
use Rattle.std.specs.Bool.{IsTrue}
use Rattle.std.specs.declared.ops.Range.{Range}
use Rattle.std.specs.List.{AllWithin, HoldsAt}
use Rattle.std.specs.Iterator.Runs.{Run, SomeRun, CallKeepsClosure, AllItemsGive, IsFirstToGive}
use Rattle.std.proofs.lemmas.Option.{none-some}
use Rattle.std.proofs.iter.Yields.{nat_range_steps}
use Rattle.std.proofs.iter.runs.Sources.{range_runs}
use Rattle.findings.specs.Findings.{Finding, first, when}
use Rattle.findings.specs.declared.Flaw.{Flaw}
use Rattle.matrix.proofs.Fold.{fold_none, fold_met}

-- nothing was found where neither found anything
pub or_none : (g h : Finding) → option_or g h ≡ None → (g ≡ None) × (h ≡ None)
or_none None h e = (refl, e)
or_none (Some f) h e = absurd (cc)

module _ (p : ℕ → Bool) (f : ℕ → Flaw) where
  none_below : (n : ℕ) → ((k : ℕ) → k < n → p k ≡ false) → first n (λ k. when (p k) (f k)) ≡ None
  none_below n h = fold_none option_or None refl n (λ k. when (p k) (f k)) (λ k l. ap (λ (b : Bool). when b (f k)) (h k l))

  found_at : (n i : ℕ) → i < n → p i ≡ true → ((k : ℕ) → k < i → p k ≡ false) → first n (λ k. when (p k) (f k)) ≡ Some (f i)
  found_at n i l e h =
      fold_met option_or None (λ g. refl) n i (λ k. when (p k) (f k)) l (ap₂ option_or (none_below i h) (ap (λ (b : Bool). when b (f i)) e))

-- the first place of a list whose element passes, as `position` gives it
pub first_element : {A : Type 0} (test : A → Bool) (f : ℕ → Flaw) (xs : List A) (d : A) (r : Option ℕ)
    → MatchOption r (AllWithin (λ x. test x ≡ false) xs 0 (length xs))
    (λ i. (i < length xs) × HoldsAt (λ x. test x ≡ true) xs i × AllWithin (λ x. test x ≡ false) xs 0 i)
    → first (length xs) (λ k. when (test (get_or xs k d)) (f k)) ≡ option_map f r
first_element test f xs d None h = none_below (λ k. test (get_or xs k d)) f (length xs) (λ k l. h k d zero-le l)
first_element test f xs d (Some i) h = found_at (λ k. test (get_or xs k d)) f (length xs) i h.0 (h.1 d) (λ k l. h.2 k d zero-le l)

-- the first number after i that passes, as `find` gives it over a range
pub first_after : (test : ℕ → Bool) (f : ℕ → Flaw) (i n : ℕ) (r : Option ℕ)
    → MatchOption r ((k : ℕ) → i + 1 ≤ k → k < n → test k ≡ false)
    (λ j. (i + 1 ≤ j) × (j < n) × (test j ≡ true) × ((k : ℕ) → i + 1 ≤ k → k < j → test k ≡ false))
    → first n (λ k. when (ltb i k && test k) (f k)) ≡ option_map f r
first_after test f i n r = go r
  where
    not_after : (k : ℕ) (a : Bool) → ltb i k ≡ a → (i + 1 ≤ k → test k ≡ false) → (a && test k) ≡ false
    not_after k true e h = h (omega (arith, ltb-true i k e))
    not_after k false e h = refl

    go : (r : Option ℕ)
        → MatchOption r ((k : ℕ) → i + 1 ≤ k → k < n → test k ≡ false)
        (λ j. (i + 1 ≤ j) × (j < n) × (test j ≡ true) × ((k : ℕ) → i + 1 ≤ k → k < j → test k ≡ false))
        → first n (λ k. when (ltb i k && test k) (f k)) ≡ option_map f r
    go None h = none_below (λ k. ltb i k && test k) f n (λ k l. not_after k (ltb i k) refl (λ after. h k after l))
    go (Some j) h =
        found_at (λ k. ltb i k && test k) f n j h.1 (ap (λ (b : Bool). b && test j) (lt-ltb i j (omega (arith, h.0))) ∙ h.2)
        (λ k l. not_after k (ltb i k) refl (λ after. h.3 k after l))

-- what `find_map` gives over the numbers below n, where its closure computes h
module _ {F : Type 0} {g : Mut F (ℕ × Unit {0}) Finding} (f : F) (h : ℕ → Finding) (computes : (x : ℕ × Unit {0}) (o : Finding) (q : F) → Called g f x o q → (q ≡ f) × (o ≡ h x.0)) where
  -- the answer at place k, which is asked of k
  at_place : (p : Run nat_range_steps) → p.from.start ≡ 0 → (k : ℕ) → k < p.len → (o : Finding)
      → ((x : ℕ) → p.at k ≡ Some x → Called g f (x, tt) o f) → h k ≡ o
  at_place p zero k l o called = sym (computes (k, tt) o f (called k (go (p.at k) ((range_runs p p.seen).3 k l)))).1
    where
      go : (v : Option ℕ) → option_map (λ x. x) v ≡ Some (p.from.start + k) → v ≡ Some k
      go None e = absurd (none-some _ e)
      go (Some x) e = e ∙ ap Some (omega arith)

  keeps : CallKeepsClosure g f
  keeps a r q called = (computes a r q called).0

  pub first_mapped : (s : Range ℕ) (r : Finding)
      → SomeRun nat_range_steps s (λ p. MatchOption r (IsTrue p.whole × AllItemsGive p g f None) (λ y. (i : ℕ) × (i < p.len) × (p.len ≡ i + 1) × IsFirstToGive p g f (Some y) None i))
      → s.start ≡ 0 → first s.end h ≡ r
  first_mapped s None (p, from, (whole, each)) zero =
      let start : p.from.start ≡ 0 = ap (λ (t : Range ℕ). t.start) from ∙ zero in
      let end : p.from.end ≡ s.end = ap (λ (t : Range ℕ). t.end) from in
      let all : p.len ≡ p.from.end - p.from.start = (range_runs p p.seen).1 whole in
      fold_none option_or None refl s.end h
      (λ k l. at_place p start k (omega arith) None (λ x e. subst (λ (v : Option ℕ). MatchOption v (Unit {0}) (λ y. Called g f (y, tt) None f)) e (each keeps k)))
  first_mapped s (Some y) (p, from, (i, l, last, gives)) zero =
      let start : p.from.start ≡ 0 = ap (λ (t : Range ℕ). t.start) from ∙ zero in
      let end : p.from.end ≡ s.end = ap (λ (t : Range ℕ). t.end) from in
      let within : p.len ≤ p.from.end - p.from.start = (range_runs p p.seen).0 in
      let found = gives keeps in
      fold_met option_or None (λ z. refl) s.end i h (omega arith)
      (ap₂ option_or
      (fold_none option_or None refl i h
      (λ k b. at_place p start k (omega arith) None (λ x e. subst (λ (v : Option ℕ). IsSomeAnd v (λ z. Called g f (z, tt) None f)) e (found.1 k b))))
      (at_place p start i l (Some y) (λ x e. subst (λ (v : Option ℕ). IsSomeAnd v (λ z. Called g f (z, tt) (Some y) f)) e found.0)))
