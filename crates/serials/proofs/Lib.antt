pub mod Laws
pub mod LookUp
pub mod Examples
