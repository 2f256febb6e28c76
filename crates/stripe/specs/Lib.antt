pub mod Stripe
pub mod Calls
