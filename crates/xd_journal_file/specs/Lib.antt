pub mod Written
pub mod Sizes
pub mod FileOf
pub mod inner
