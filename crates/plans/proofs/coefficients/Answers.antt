-- `plans::coefficients` meets its contract: what it divides by is the divisor of equations 17 and 18.
use Rattle.plans.proofs.Inverses.{divisor_divides, coefficients_made}
use Rattle.plans.proofs.coefficients.Goals as goal

pub unwrap-scale-requires : goal.unwrap-scale-requires
unwrap-scale-requires c =
    let h = c.requires in
    divisor_divides h.0 h.1 h.2 c.over_power-over_x.ensures c.power_of_disk.ensures c.product-ratio.ensures c.sum.ensures c.inverse.ensures

pub returns : goal.returns
returns c =
    let h = c.requires in
    coefficients_made h.0 h.1 h.2 c.over_power-over_x.ensures c.power_of_disk.ensures c.product-ratio.ensures c.sum.ensures c.inverse.ensures
    c.unwrap-scale.ensures c.product.ensures c.product-2.ensures
