pub mod CalledOnce
pub mod Hearing
pub mod Known
pub mod Logs
pub mod Opens
pub mod Standing
pub mod Tables
