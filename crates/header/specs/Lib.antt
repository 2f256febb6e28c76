pub mod Fields
pub mod Header
pub mod Refusals
pub mod Numbers
pub mod Steps
