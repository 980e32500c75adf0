pub mod Filling
pub mod Arrays
pub mod Storing
