pub mod Bridge
pub mod Given
pub mod Steps
pub mod SystemLaw
