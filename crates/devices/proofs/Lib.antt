pub mod Refused
pub mod Accepts
pub mod Codes
pub mod Order
pub mod Exchanged
