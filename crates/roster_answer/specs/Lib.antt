pub mod Words
pub mod Answer
