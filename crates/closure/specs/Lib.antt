pub mod Checking
pub mod Walking
pub mod Filling
