pub mod CheckedBelow
pub mod Faulty
pub mod Order
mod Verdicts
