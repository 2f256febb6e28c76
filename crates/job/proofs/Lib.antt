pub mod Bodies
pub mod Answers
pub mod Exchanged
pub mod Judged
