pub mod Joining
pub mod Judged
pub mod Rules
