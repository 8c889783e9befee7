pub mod Alone
pub mod NewLines
pub mod Report
mod Rows
pub mod Steps
pub mod Whole
pub mod Timings
