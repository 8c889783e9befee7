pub mod Watching
pub mod Taking
pub mod Over
