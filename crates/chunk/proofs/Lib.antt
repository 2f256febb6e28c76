pub mod Bytes
pub mod Copied
pub mod Zeros
pub mod Laws
