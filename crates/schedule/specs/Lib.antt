pub mod Run
pub mod Check
pub mod Exports
pub mod Theorems
