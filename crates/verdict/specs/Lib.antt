pub mod Summary
pub mod Agreement
pub mod Faulty
pub mod Verdicts
