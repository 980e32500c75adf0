-- The specification of the search for the moves.
pub mod Search
