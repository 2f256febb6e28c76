pub mod Sums
pub mod Strip
pub mod Passes
