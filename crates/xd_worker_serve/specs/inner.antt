pub mod Running
pub mod News
pub mod Seen
pub mod Serves
pub mod Halts
pub mod Joined
