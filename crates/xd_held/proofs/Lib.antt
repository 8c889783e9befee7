pub mod HolderFacts
pub mod Rising
