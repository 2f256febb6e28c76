pub mod Lines
pub mod Faults
pub mod FirstFault
pub mod Examples
