-- The definitions that the theorems of proofs/Theorems/Campaigns are stated with. Assumes nothing.
pub mod Tables
pub mod Computing
pub mod Trials
pub mod Cases
pub mod Demand2
pub mod Demand3
pub mod EndToEnd
pub mod OneCall
pub mod Instance
pub mod Codes
