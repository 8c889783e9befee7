pub mod Kept
pub mod Worker
