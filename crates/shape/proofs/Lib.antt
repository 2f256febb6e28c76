pub mod Places
pub mod Numbers
pub mod Refused
pub mod Accepts
pub mod Columns
pub mod Stretch
pub mod Witnesses
