pub mod Choice
pub mod Table
pub mod Splice
pub mod Fill
pub mod Refused
pub mod Tails
