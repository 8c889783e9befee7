pub mod FreshPair
pub mod MemChildren
pub mod MemFiles
pub mod MemSink
pub mod MemSource
pub mod MemStarter
