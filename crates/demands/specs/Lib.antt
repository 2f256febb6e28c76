pub mod Layout
pub mod Series
pub mod Members
pub mod Demand2
pub mod Called
pub mod Summary
pub mod Repair
