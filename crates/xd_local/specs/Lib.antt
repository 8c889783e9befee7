pub mod Local
pub mod Outside
pub mod Print
pub mod Timing
pub mod inner
