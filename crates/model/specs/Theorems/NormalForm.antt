-- The definitions that the theorems of proofs/Theorems/NormalForm are stated with. Assumes nothing.
pub mod SignedSums
pub mod Comparisons
pub mod Print
pub mod ZeroTerms
pub mod ZeroTables
