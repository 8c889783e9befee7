pub mod LinkFacts
pub mod Places
