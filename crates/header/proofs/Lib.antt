pub mod Fielded
pub mod Order
pub mod Numbers
pub mod Accepted
pub mod Limits
pub mod Headed
