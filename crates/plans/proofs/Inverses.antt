-- What a plan divides by has an inverse: a power of 02 is never 00, and neither is 02^(y-x) + 01 for two different disks.
-- Assumes nothing.
use mathlib.Core.Path.{◌≡◌, ap, ap₂, ◌∙◌}
use mathlib.Core.Logic.{◌≢◌}
use Prim.Native.Nat.{ℕ, ◌<◌}
use Rattle.std.specs.Prelude.{Option, Some, IsSome}
use Rattle.gf256.specs.declared.Element.{Element}
use Rattle.gf256.specs.Field.{element, sum, product, power, reciprocal, inverse}
use Rattle.gf256.proofs.Laws.{power_of_two_nonzero, inverse_is}
use Rattle.column.specs.Column.{over_power, ratio, divisor}
use Rattle.column.proofs.ReedSolomon.{divisor_nonzero, coefficients_are}
use Rattle.losses.specs.declared.Rule.TheVariants.{Mixed}
use Rattle.plans.specs.Plans.{mixed}

pub power_inverse : (x : ℕ) → inverse (power 2 x) ≡ Some (element (over_power x))
power_inverse x = inverse_is (power 2 x) (power_of_two_nonzero x)

-- equations 17 and 18, by their divisor's inverse
module _ {x y : ℕ} {over power_y r s : Element} {found : Option Element} (low : x < 255) (high : y < 255) (other : x ≢ y) (over_is : over.0 ≡ over_power x) (power_is : power_y.0 ≡ power 2 y)
    (r_is : r.0 ≡ product power_y.0 over.0)
    (s_is : s.0 ≡ sum r.0 1)
    (found_is : found ≡ inverse s.0) where
  nonzero : divisor x y ≢ 0
  nonzero = divisor_nonzero x y low high other

  abbrev scale : ℕ
  scale = reciprocal (divisor x y) nonzero

  ratio_is : r.0 ≡ ratio y x
  ratio_is = r_is ∙ ap₂ product power_is over_is

  divisor_inverse : found ≡ Some (element scale)
  divisor_inverse =
      found_is ∙ ap inverse (s_is ∙ ap (λ (v : ℕ). sum v 1) ratio_is) ∙ inverse_is (divisor x y) nonzero

  pub divisor_divides : IsSome found
  divisor_divides = rw divisor_inverse

  pub coefficients_made : {by first second : Element} → found ≡ Some by → first.0 ≡ product r.0 by.0 → second.0 ≡ product over.0 by.0 → Mixed first second ≡ mixed x y
  coefficients_made {by} got first_is second_is =
      let scale_is : by ≡ element scale = let is = divisor_inverse in cc in
      rw (coefficients_are x y nonzero)
      (ap₂ (λ (a b : ℕ). Mixed (element a) (element b))
      (first_is ∙ ap₂ product ratio_is (ap (λ (e : Element). e.0) scale_is)) (second_is ∙ ap₂ product over_is (ap (λ (e : Element). e.0) scale_is)))
