pub mod Fold
pub mod Matrix
