pub mod Calls
pub mod Events
pub mod Functions
pub mod Kwargs
pub mod Limits
pub mod Orders
pub mod Status
pub mod Words
