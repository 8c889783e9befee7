pub mod Asked
pub mod Command
pub mod Refusal
pub mod Words
