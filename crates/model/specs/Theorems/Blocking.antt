-- The definitions that the theorems of proofs/Theorems/Blocking are stated with. Assumes nothing.
pub mod Parts
pub mod Calls
pub mod Goals
pub mod Reason
pub mod Written
pub mod EndToEnd
pub mod Cases
pub mod Instance
