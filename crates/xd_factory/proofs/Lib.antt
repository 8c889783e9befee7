pub mod Spans
pub mod Joining
pub mod Bounds
pub mod Readings
pub mod Dumps
pub mod Entries
pub mod Naming
pub mod Refusals
pub mod Losing
pub mod Tracing
pub mod Keeping
pub mod SideTables
pub mod Meanings
mod Rows
