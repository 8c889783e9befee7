pub mod Names
pub mod StopLine
