pub mod Linking
pub mod Facts
