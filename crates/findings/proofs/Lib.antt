pub mod Findings
pub mod Reports
pub mod Fit
pub mod Rebuild
pub mod System
pub mod Places
pub mod Permutations
pub mod Witnesses
