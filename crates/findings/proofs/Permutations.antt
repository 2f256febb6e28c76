-- Permutation matrices alone never do: each sends the all_ones vector to itself, so the sum of two sends it to zero.
-- Assumes nothing.
use mathlib.Core.Path.{◌≡◌, refl, sym, ap, ◌∙◌}
use mathlib.Core.Bool.{true, ◌&&◌}
use Prim.Native.Nat.{ℕ, ◌+◌, ◌*◌, ◌%◌, ◌^◌, ◌<◌}
use native.Mathlib.Nat.{mul-one}
use native.Mathlib.Omega.{arith}
use borrow.Author.Tests.{eqb-true}
use lib.Bits.{bit_xor, xor_self}
use lib.Dec.{eqb}
use Rattle.matrix.specs.Fold.{fold}
use Rattle.matrix.specs.Matrix.{Matrix, bit, entry, component, apply, add}
use Rattle.findings.specs.Findings.{Code, X, finding}
use Rattle.findings.specs.Cone.{Permutation}
use Rattle.std.specs.Prelude.{None}
use Rattle.matrix.proofs.Fold.{fold_ext, none_fold}
use Rattle.matrix.proofs.Invertible.{and_true}
use Rattle.matrix.proofs.Linear.{apply_add}
use Rattle.findings.proofs.Fit.{fit_cone}

all_ones : (c : ℕ) → c < 8 → bit 255 c ≡ 1
unfolding fold
all_ones c l = eqb-true _ _ (none_fold ◌&&◌ true and_true 8 (λ k. eqb (bit 255 k) 1) refl c l)

odd : (m : Matrix) → Permutation m → (r : ℕ) → r < 8 → component m 255 r ≡ 1
unfolding component
odd m p r l =
    ap (λ (n : ℕ). n % 2)
    (fold_ext ◌+◌ 0 8 _ _ (λ c lc. ap (λ (x : ℕ). entry m r c * x) (all_ones c lc) ∙ mul-one (entry m r c)) ∙ p.rows r l)

pub sum_kills_ones : (a b : Matrix) → Permutation a → Permutation b → apply (add a b) 255 ≡ 0
unfolding apply
sum_kills_ones a b p q =
    apply_add a b 255
    ∙ ap (λ (x : ℕ). bit_xor x (apply b 255)) (fold_ext ◌+◌ 0 8 _ _ (λ r l. ap (λ (n : ℕ). n * 2 ^ r) (odd a p r l ∙ sym (odd b q r l))))
    ∙ xor_self (apply b 255)

pub permutations_unfit : (code : Code) (count : ℕ) → 1 < count → ((i : ℕ) → i < count → Permutation (X code i))
    → finding code count ≡ None → ⊥
permutations_unfit code count l p e =
    let never = ((fit_cone code count).0 e).sums 0 1 (omega arith) l (omega arith) 255 (omega arith) (sum_kills_ones _ _ (p 0 (omega arith)) (p 1 l)) in
    omega arith
