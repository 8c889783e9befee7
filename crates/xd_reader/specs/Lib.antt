pub mod Judged
pub mod Reads
pub mod inner
