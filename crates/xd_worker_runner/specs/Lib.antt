pub mod Programs
pub mod Orders
pub mod inner
