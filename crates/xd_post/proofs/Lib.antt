pub mod MailFacts
pub mod Turns
