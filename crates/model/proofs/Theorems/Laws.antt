-- Tests, searches, counts, lists and sets as facts.
pub mod Booleans
pub mod Searching
pub mod Counting
pub mod Listed
pub mod Sets
