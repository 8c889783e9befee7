pub mod Ends
pub mod Heard
pub mod LinkRun
pub mod Pages
pub mod PeerView
pub mod Sent
pub mod ToLink
pub mod inner
