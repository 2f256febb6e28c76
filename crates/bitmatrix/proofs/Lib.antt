pub mod Weight
pub mod Places
