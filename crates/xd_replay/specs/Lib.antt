pub mod Alone
pub mod Checked
pub mod Failed
pub mod Limits
pub mod Told
pub mod Verdict
pub mod inner
