pub mod State
pub mod Passing
