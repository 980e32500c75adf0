pub mod Ceiling
pub mod Theorems
pub mod Heads
pub mod Numbers
