pub mod Restore
