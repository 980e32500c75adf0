pub mod Stamps
pub mod Edges
pub mod Marks
pub mod Tracks
pub mod Steps
pub mod Items
pub mod Terms
pub mod Blocks
