pub mod Ends
pub mod Added
pub mod Bounds
pub mod LinkSums
pub mod Laws
