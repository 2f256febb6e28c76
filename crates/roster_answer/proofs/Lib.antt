pub mod Begins
pub mod Told
pub mod Answered
pub mod Small
