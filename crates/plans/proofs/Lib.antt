pub mod Inverses
pub mod Planned
