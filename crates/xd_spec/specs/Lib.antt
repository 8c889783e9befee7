pub mod Numbers
pub mod Spec
pub mod Tx
