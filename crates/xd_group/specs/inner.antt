pub mod Ending
pub mod Kept
pub mod Late
