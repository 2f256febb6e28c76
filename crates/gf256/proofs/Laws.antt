-- The laws of the field that other crates cite, in one place; each is stated and proved in the module named.
-- Assumes nothing.
pub use lib.Bits.{xor_comm as sum_comm, xor_self as sum_self, xor_zero_l as zero_sum, xor_zero_r as sum_zero, xor_lt}
pub use Rattle.gf256.proofs.Xor.{xor_assoc as sum_assoc, xor_exchange as sum_exchange, xor_cancel as sum_cancel, xor_zero as sum_only_zero}
pub use Rattle.gf256.proofs.Product.{product_lt, product_left, product_right, product_comm, product_assoc, product_one, product_zero, zero_product, double_product}
pub use Rattle.gf256.proofs.Powers.{power_lt, power_add, power_mul, power_order, power_of_two_mod, power_of_two_nonzero, power_of_two_injective, power_mod, power_255, exponent_of, product_inverse, product_nonzero, quotient_nonzero, inverse_is, inverse_value, inverse_none, found_is, exponent_within, exponent_beyond, logarithm_is, logarithm_none, exponent_below, logarithm_exponent, logarithm_power_of_two, logarithm_product, product_only_zero, powers_only_zero, product_one_to_one, powers_one_to_one}
