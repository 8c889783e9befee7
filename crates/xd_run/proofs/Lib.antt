pub mod Changed
pub mod Counts
pub mod Handing
pub mod Parts
pub mod Pins
pub mod Retries
pub mod Rows
pub mod Turns
