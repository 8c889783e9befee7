pub mod Cut
pub mod Moves
pub mod Giving
pub mod Once
pub mod Asking
pub mod Stealing
pub mod Ends
pub mod Starts
pub mod Within
pub mod Logs
pub mod Idle
mod Rows
