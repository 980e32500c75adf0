-- The trial campaigns by computation; demand 2 and demand 3 from bytes to answers; the codes of answers.
pub mod Trials
pub mod Cases
pub mod Demand2
pub mod Demand3
pub mod EndToEnd
pub mod OneCall
pub mod Instance
pub mod Codes
