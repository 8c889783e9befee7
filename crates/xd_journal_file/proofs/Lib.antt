pub mod Fields
pub mod Files
pub mod Found
pub mod Items
pub mod Plain
pub mod ReadBack
mod Rows
