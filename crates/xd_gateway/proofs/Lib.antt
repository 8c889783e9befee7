pub mod Lines
pub mod Counted
pub mod Ears
pub mod Telling
pub mod EventNews
pub mod Sides
pub mod Hearing
pub mod Saying
pub mod Kwargs
mod Rows
