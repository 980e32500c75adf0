-- The definitions that the theorems of proofs/Theorems are stated with. Assumes nothing.
pub mod Used
pub mod Calls
pub mod EndToEnd
pub mod Codes
pub mod Fitting
pub mod Board
pub mod Longer
pub mod Cases
