mod Horner
mod Zeros
mod Runs
pub mod Strips
pub mod Passes
