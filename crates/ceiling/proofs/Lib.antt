pub mod Theorems
pub mod Numbers
