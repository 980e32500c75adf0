-- The definitions that the theorems of proofs/Theorems/Pddl are stated with. Assumes nothing.
pub mod Declared
pub mod Words
pub mod Text
pub mod Calls
pub mod ZeroTerms
pub mod Cases
