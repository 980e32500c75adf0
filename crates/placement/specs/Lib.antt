pub mod Day
pub mod Placement
pub mod Placing
pub mod Exports
pub mod Theorems
