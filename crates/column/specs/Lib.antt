pub mod Column
pub mod Loss
pub mod Lawful
