pub mod Summary
pub mod Agreement
pub mod Common
pub mod Divided
pub mod Zeros
