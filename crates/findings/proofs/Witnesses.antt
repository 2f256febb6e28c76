-- What the theorems about the judge suppose can be met: each definition has an example, which the definitions compute.
-- Assumes nothing.
use mathlib.Core.Path.{◌≡◌, refl, subst}
use mathlib.Core.Logic.{◌≢◌}
use mathlib.Core.Bool.{true, ◌&&◌}
use mathlib.Core.List.{[], ◌∷◌}
use Prim.Native.Nat.{ℕ, ◌<◌}
use native.Mathlib.Omega.{arith}
use borrow.Author.Tests.{eqb-true}
use lib.Dec.{eqb}
use Rattle.matrix.specs.Fold.{fold, sum}
use Rattle.matrix.specs.Matrix.{Matrix, entry, component, apply, invertible}
use Rattle.findings.specs.Findings.{finding}
use Rattle.findings.specs.Cone.{Cone, Permutation, FirstSingular, FirstPair, Reports}
use Rattle.findings.specs.Rebuild.{Device, Word, P, Q, Known, Held, Bytes, Rebuilt}
use Rattle.std.specs.Prelude.{Some, None}
use Rattle.findings.specs.declared.Flaw.TheVariants.{Singular, Pair}
use Rattle.base.specs.Table.{tabulate}
use Rattle.matrix.proofs.Fold.{none_fold}
use Rattle.matrix.proofs.Invertible.{and_true}
use Rattle.findings.proofs.Reports.{reported}
use Rattle.findings.proofs.Fit.{fit_cone}
use Rattle.findings.proofs.System.{fit_rebuilds}

abbrev pub identity : Matrix
identity = 1 ∷ 2 ∷ 4 ∷ 8 ∷ 16 ∷ 32 ∷ 64 ∷ 128 ∷ []

-- times 02 in the paper's field
abbrev pub double : Matrix
double = 128 ∷ 1 ∷ 130 ∷ 132 ∷ 136 ∷ 16 ∷ 32 ∷ 64 ∷ []

abbrev pub zeros : Matrix
zeros = 0 ∷ 0 ∷ 0 ∷ 0 ∷ 0 ∷ 0 ∷ 0 ∷ 0 ∷ []

-- a rule that is computed at each place below 8
by_place : (f : ℕ → ℕ) → fold ◌&&◌ true 8 (λ k. eqb (f k) 1) ≡ true → (k : ℕ) → k < 8 → f k ≡ 1
by_place f e k l = eqb-true _ _ (none_fold ◌&&◌ true and_true 8 (λ k. eqb (f k) 1) e k l)

pub identity_permutes : Permutation identity
unfolding fold
identity_permutes =
    record {
      rows = by_place (λ r. sum 8 (λ c. entry identity r c)) refl;
      columns = by_place (λ c. sum 8 (λ r. entry identity r c)) refl;
    }

pub found_fit : finding (identity ∷ double ∷ []) 2 ≡ None
unfolding finding invertible apply component fold tabulate
found_fit = refl

pub found_pair : finding (identity ∷ identity ∷ []) 2 ≡ Some (Pair 0 1)
unfolding finding invertible apply component fold tabulate
found_pair = refl

pub found_singular : finding (identity ∷ zeros ∷ []) 2 ≡ Some (Singular 1)
unfolding finding invertible apply component fold tabulate
found_singular = refl

pub a_cone : Cone (identity ∷ double ∷ []) 2
a_cone = (fit_cone (identity ∷ double ∷ []) 2).0 found_fit

pub a_first_pair : FirstPair (identity ∷ identity ∷ []) 2 0 1
a_first_pair = subst (Reports (identity ∷ identity ∷ []) 2) found_pair (reported (identity ∷ identity ∷ []) 2)

pub a_first_singular : FirstSingular (identity ∷ zeros ∷ []) 2 1
a_first_singular = subst (Reports (identity ∷ zeros ∷ []) 2) found_singular (reported (identity ∷ zeros ∷ []) 2)

-- both words, a word and a parity, and both parities of such a code
module _ (s : Held) (bytes : Bytes 2 s) where
  abbrev Found : Device → Device → Type 0
  Found d e = Rebuilt (identity ∷ double ∷ []) 2 d e s

  rebuilt : (d e : Device) → Known 2 d → Known 2 e → d ≢ e → Found d e
  rebuilt d e hd he apart = fit_rebuilds (identity ∷ double ∷ []) 2 found_fit d e hd he apart s bytes

  pub two_words_rebuilt : Found (Word 0) (Word 1)
  two_words_rebuilt = rebuilt (Word 0) (Word 1) (omega arith) (omega arith) (λ e. let z : ◌≡◌ {A = ℕ} 0 1 = cc in omega arith)

  pub word_and_p_rebuilt : Found (Word 1) P
  word_and_p_rebuilt = rebuilt (Word 1) P (omega arith) tt (λ e. let z : ◌≡◌ {A = ℕ} 0 1 = cc in omega arith)

  pub word_and_q_rebuilt : Found (Word 1) Q
  word_and_q_rebuilt = rebuilt (Word 1) Q (omega arith) tt (λ e. let z : ◌≡◌ {A = ℕ} 0 1 = cc in omega arith)

  pub p_and_q_rebuilt : Found P Q
  p_and_q_rebuilt = rebuilt P Q tt tt (λ e. let z : ◌≡◌ {A = ℕ} 0 1 = cc in omega arith)
