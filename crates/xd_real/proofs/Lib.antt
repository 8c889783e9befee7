pub mod Keeping
pub mod Vars
