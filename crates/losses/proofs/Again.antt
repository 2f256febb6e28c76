-- What a plan restores comes out the same a second time: it is computed from what the plan leaves alone.
-- Assumes nothing.
use mathlib.Core.Path.{◌≡◌, refl, ap, ap₂, fun_ext, ◌∙◌}
use mathlib.Core.Bool.{Bool, true, false}
use Prim.Native.Nat.{ℕ, ◌+◌}
use native.Mathlib.Omega.{arith}
use lib.Dec.{eqb}
use Rattle.base.specs.Choice.{choose}
use Rattle.gf256.specs.Field.{power}
use Rattle.gf256.proofs.Laws.{product_right}
use Rattle.column.specs.Column.{Column, put, total, syndrome_p, syndrome_q, reed_solomon}
use Rattle.column.proofs.Put.{put_twice}
use Rattle.column.proofs.Weighted.{Additive, weighted, weighted_outside}
use Rattle.losses.specs.declared.Plan.{Plan}
use Rattle.losses.specs.declared.Plan.TheVariants.{ByP, FromData, ByBoth}
use Rattle.losses.specs.Losses.{solution, without, solved, restored_by}

-- two roles put over what was put on them before
pub put_over : (x y v w v₀ w₀ : ℕ) (c : Column) → put x v (put y w (put x v₀ (put y w₀ c))) ≡ put x v (put y w c)
put_over x y v w v₀ w₀ c = fun_ext λ r. at (eqb r x) (eqb r y) (c r)
  where
    at : (a b : Bool) (u : ℕ) → choose a v (choose b w (choose a v₀ (choose b w₀ u))) ≡ choose a v (choose b w u)
    at true b u = refl
    at false true u = refl
    at false false u = refl

-- the same put again, or taken as 00 after they were put
put_again : (x y v w : ℕ) (c : Column) → put x v (put y w (put x v (put y w c))) ≡ put x v (put y w c)
put_again x y v w c = put_over x y v w v w c

without_put : (x y v w : ℕ) (c : Column) → without x y (put x v (put y w c)) ≡ without x y c
without_put x y v w c = put_over x y 0 0 v w c

module _ (n : ℕ) where
  -- the sums over the data do not see Q
  sum_same : (t : ℕ → ℕ → ℕ) → Additive t → (v w : ℕ) (c : Column) → weighted t n (put n v (put (n + 1) w c)) ≡ weighted t n c
  sum_same t add v w c =
      weighted_outside t add n (put (n + 1) w c) n v (omega arith) ∙ weighted_outside t add n c (n + 1) w (omega arith)

  pub restored_again : (plan : Plan) (c : Column) → restored_by n plan (restored_by n plan c) ≡ restored_by n plan c
  unfolding reed_solomon solved
  restored_again (ByP x) c = ap (λ (e : Column). put x (total (n + 1) e) (restored_by n (ByP x) c)) (put_twice x 0 _ c) ∙ put_twice x _ _ c
  restored_again (FromData true) c =
      ap₂ (λ (v w : ℕ). put n v (put (n + 1) w (restored_by n (FromData true) c))) (sum_same (λ k v. v) (λ k v w. refl) _ _ c) (sum_same reed_solomon.act (λ k. product_right (power 2 k)) _ _ c)
      ∙ put_again n (n + 1) _ _ c
  restored_again (FromData false) c =
      ap (λ (w : ℕ). put (n + 1) w (restored_by n (FromData false) c)) (weighted_outside reed_solomon.act (λ k. product_right (power 2 k)) n c (n + 1) _ (omega arith))
      ∙ put_twice (n + 1) _ _ c
  restored_again (ByBoth pair rule) c =
      let x = pair.x in
      let y = pair.y in
      ap (λ (e : Column). let bytes = solution rule (syndrome_p n e) (syndrome_q reed_solomon n e) in put x bytes.first (put y bytes.second (solved n x y rule c))) (without_put x y _ _ c)
      ∙ put_again x y _ _ c
