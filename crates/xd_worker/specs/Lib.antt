pub mod History
pub mod Inputs
pub mod Logs
pub mod Stands
pub mod Table
pub mod Talk
pub mod Turns
pub mod Worker
