pub mod Books
pub mod Compared
pub mod Kept
pub mod Known
