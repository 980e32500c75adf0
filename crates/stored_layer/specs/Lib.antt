-- The specification of reading a stored layer back.
pub mod View
pub mod Stored
