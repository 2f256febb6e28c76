pub mod Layout
pub mod Refusals
pub mod Columns
pub mod Number
