pub mod Kept
pub mod Enough
pub mod Asked
pub mod Held
