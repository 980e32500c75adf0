pub mod Patterns
pub mod Places
