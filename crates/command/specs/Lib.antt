pub mod Names
pub mod Codes
pub mod Checks
