pub mod Bytes
pub mod Serials
pub mod LookUp
pub mod Lowest
