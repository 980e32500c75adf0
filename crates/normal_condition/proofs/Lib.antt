-- The proofs of sums and conditions in normal form: signed numbers that the code negates.
pub mod Signed
