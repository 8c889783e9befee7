pub mod EventFitting
pub mod Fitting
pub mod Fours
pub mod ReadBack
pub mod Tuples
pub mod WordBytes
