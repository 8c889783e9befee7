pub mod Compared
pub mod Good
pub mod Heard
pub mod Lone
pub mod Replayed
pub mod Results
