pub mod Begins
pub mod Completes
pub mod Kept
pub mod KeptRuns
pub mod Refused
pub mod Replaying
pub mod Serves
