pub mod Bounded
pub mod Ends
pub mod History
pub mod Part
pub mod Stands
pub mod inner
