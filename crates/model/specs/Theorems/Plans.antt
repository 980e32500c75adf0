-- The definitions that the theorems of proofs/Theorems/Plans are stated with. Assumes nothing.
pub mod Targets
pub mod Wanting
pub mod Conditions
pub mod Supporting
pub mod Taking
pub mod Records
