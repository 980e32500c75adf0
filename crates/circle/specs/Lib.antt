pub mod Walks
pub mod Pruning
