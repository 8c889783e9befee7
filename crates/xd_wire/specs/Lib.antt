pub mod Names
pub mod WireText
pub mod Printing
pub mod inner
