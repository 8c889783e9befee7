pub mod Line
pub mod Turns
pub mod History
pub mod Rows
pub mod Logs
pub mod Idle
pub mod inner
