pub mod Calls
pub mod PeerFacts
pub mod Sending
