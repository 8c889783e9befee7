pub mod Bounds
pub mod Driven
pub mod Failing
pub mod Failures
pub mod Follow
pub mod Heard
pub mod Ids
pub mod InTime
pub mod Kept
pub mod Kills
pub mod LinesFirst
pub mod Loop
mod MomentRows
pub mod Named
pub mod NextListed
pub mod Outs
pub mod Performs
mod Rows
pub mod Runs
mod Status
pub mod Stepped
pub mod Texts
pub mod Turns
pub mod Unkilled
