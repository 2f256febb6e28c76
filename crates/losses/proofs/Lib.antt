pub mod Without
pub mod Again
