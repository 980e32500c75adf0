-- The specification of one layer's records.
pub mod Records
