pub mod Compares
pub mod Deaths
pub mod Loops
pub mod Places
