pub mod Digits
pub mod Seats
