pub mod Payloads
pub mod Lines
