pub mod Compare
pub mod Repair
