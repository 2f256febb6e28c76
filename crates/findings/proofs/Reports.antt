-- Every finding says what is so: a search that finds something finds it at a place before which there was nothing, and one that finds nothing has tried all.
-- Assumes nothing.
use mathlib.Core.Path.{◌≡◌, refl, sym, ap, ◌∙◌, subst}
use mathlib.Core.Logic.{⊎_elim}
use mathlib.Core.Bool.{Bool, true, false, not, ◌&&◌}
use Prim.Native.Nat.{ℕ, zero, suc, ◌<◌}
use native.Mathlib.Decide.{dec_lt}
use native.Mathlib.Omega.{arith}
use borrow.Author.Tests.{ltb-true, lt-ltb, not-false}
use lib.Bits.{xor_comm}
use lib.Dec.{ltb}
use Rattle.std.specs.Prelude.{Some, None}
use Rattle.std.specs.Option.{option_or}
use Rattle.std.proofs.lemmas.Option.{none-some}
use Rattle.matrix.specs.Fold.{fold}
use Rattle.matrix.specs.Matrix.{row, add, singular, Invertible}
use Rattle.findings.specs.Findings.{Code, X, Finding, first, when, singular_at, pair_at, first_pair, finding}
use Rattle.findings.specs.Cone.{Cone, FirstSingular, FirstPair, Reports}
use Rattle.findings.specs.declared.Flaw.{Flaw}
use Rattle.findings.specs.declared.Flaw.TheVariants.{Singular, Pair}
use Rattle.base.proofs.Table.{tabulate_same}
use Rattle.matrix.proofs.Fold.{none_fold}
use Rattle.findings.proofs.Findings.{or_none}
use Rattle.matrix.proofs.Invertible.{only_zero, zero_only, and_true}

-- ---- one test

when_none : (b : Bool) (f : Flaw) → when b f ≡ None → b ≡ false
when_none true f e = absurd (none-some f (sym e))
when_none false f e = refl

when_found : (b : Bool) (f g : Flaw) → when b f ≡ Some g → (b ≡ true) × (f ≡ g)
when_found true f g e = (refl, cc)
when_found false f g e = absurd (none-some g e)

module _ (code : Code) where
  passed : (i : ℕ) → singular_at code i ≡ None → Invertible (X code i)
  passed i e = only_zero _ (not-false _ (when_none _ (Singular i) e))

  pub passes : (i : ℕ) → Invertible (X code i) → singular_at code i ≡ None
  passes i h = ap (λ (t : Bool). when (not t) (Singular i)) (zero_only _ h)

  pair_passed : (i j : ℕ) → i < j → pair_at code i j ≡ None → Invertible (add (X code i) (X code j))
  pair_passed i j l e =
      only_zero _
      (not-false _ (sym (ap (λ (t : Bool). t && singular (add (X code i) (X code j))) (lt-ltb i j l)) ∙ when_none _ (Pair i j) e))

  pub pair_passes : (i j : ℕ) → (i < j → Invertible (add (X code i) (X code j))) → pair_at code i j ≡ None
  pair_passes i j h = at (ltb i j) refl
    where
      at : (b : Bool) → ltb i j ≡ b → when (b && singular (add (X code i) (X code j))) (Pair i j) ≡ None
      at true e = ap (λ (t : Bool). when (not t) (Pair i j)) (zero_only _ (h (ltb-true i j e)))
      at false e = refl

-- ---- a search

-- g was found at a place, and nothing before it
record Found (n : ℕ) (f : ℕ → Finding) (g : Flaw) : Type 0 where
  at : ℕ
  below : at < n
  here : f at ≡ Some g
  before : (l : ℕ) → l < at → f l ≡ None

found : (n : ℕ) (f : ℕ → Finding) (g : Flaw) → first n f ≡ Some g → Found n f g
unfolding fold
found zero f g e = absurd (none-some g e)
found (suc n) f g e = go (first n f) refl e (found n f g)
  where
    go : (h : Finding) → first n f ≡ h → option_or h (f n) ≡ Some g → (first n f ≡ Some g → Found n f g) → Found (suc n) f g
    go None none here rest = record { at = n; below = omega arith; here = here; before = none_fold option_or None or_none n f none }
    go (Some k) is same rest =
        let r = rest (is ∙ same) in
        record { at = r.at; below = omega arith; here = r.here; before = r.before }

-- ---- the three findings

module _ (code : Code) (count : ℕ) where
  abbrev matrix : Finding
  matrix = first count (λ i. singular_at code i)

  abbrev pair : Finding
  pair = first_pair code count

  ordered : pair ≡ None → (i j : ℕ) → i < j → j < count → Invertible (add (X code i) (X code j))
  ordered e i j l lj = pair_passed code i j l (none_fold option_or None or_none count _ (none_fold option_or None or_none count _ e i (omega arith)) j lj)

  cone : matrix ≡ None → pair ≡ None → Cone code count
  cone e p = record {
    each = λ i l. passed code i (none_fold option_or None or_none count _ e i l);
    sums = λ i j li lj n.
        elim (dec_lt i j) [
          | yes l ↦ ordered p i j l lj
          | no g ↦ subst Invertible (tabulate_same 8 (λ r _. xor_comm (row (X code j) r) (row (X code i) r))) (ordered p j i (omega arith) li)
        ];
  }

  first_singular : (g : Flaw) → matrix ≡ Some g → Reports code count (Some g)
  first_singular g e =
      let r = found count (λ i. singular_at code i) g e in
      let report : FirstSingular code count r.at = record {
        below = r.below;
        singular = λ h. none-some g (sym (passes code r.at h) ∙ r.here);
        before = λ k l. passed code k (r.before k l);
      } in
      subst (λ (f : Flaw). Reports code count (Some f)) (when_found (singular (X code r.at)) (Singular r.at) g r.here).1 report

  first_pair_lem : matrix ≡ None → (g : Flaw) → pair ≡ Some g → Reports code count (Some g)
  first_pair_lem e g p =
      let r = found count (λ i. first count (λ j. pair_at code i j)) g p in
      let s = found count (λ j. pair_at code r.at j) g r.here in
      let w = when_found _ (Pair r.at s.at) g s.here in
      let report : FirstPair code count r.at s.at = record {
        matrices = λ k l. passed code k (none_fold option_or None or_none count _ e k l);
        ordered = ltb-true _ _ (and_true _ _ w.0).0;
        below = s.below;
        singular = λ h. none-some g (sym (pair_passes code r.at s.at (λ _. h)) ∙ s.here);
        before = λ k l o lc b.
            pair_passed code k l o
            (⊎_elim (λ a. none_fold option_or None or_none count _ (r.before k a) l lc) (λ a. subst (λ (i : ℕ). pair_at code i l ≡ None) (sym a.0) (s.before l a.1)) b);
      } in
      subst (λ (f : Flaw). Reports code count (Some f)) w.1 report

  pub reported : Reports code count (finding code count)
  unfolding finding
  reported = go matrix pair refl refl
    where
      go : (m p : Finding) → matrix ≡ m → pair ≡ p → Reports code count (option_or m p)
      go None None t s = cone t s
      go None (Some g) t s = first_pair_lem t g s
      go (Some g) p t s = first_singular g t
