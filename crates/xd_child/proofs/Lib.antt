pub mod Ran
pub mod Waiting
