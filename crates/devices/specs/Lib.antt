pub mod Refusals
pub mod Codes
