pub mod Findings
pub mod Cone
pub mod Rebuild
