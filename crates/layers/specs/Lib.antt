pub mod Goal
pub mod Building
pub mod Starting
pub mod Preparing
pub mod Leaving
