pub mod FileLemmas
pub mod LinkLemmas
pub mod MemLemmas
pub mod SourceLemmas
