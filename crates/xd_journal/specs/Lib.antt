pub mod Kept
pub mod Local
pub mod Said
pub mod Stop
