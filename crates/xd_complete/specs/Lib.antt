pub mod Complete
pub mod Says
