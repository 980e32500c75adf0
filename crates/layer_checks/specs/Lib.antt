pub mod Comparing
pub mod Checks
