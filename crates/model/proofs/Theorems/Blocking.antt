-- The goal part that blocks (document 02, request 3): which part it is and where it stands in the normal table; the call's answer beside
-- that of decide; that it is the true reason of "no plan", in the normal table and in the written one; small cases by computation.
pub mod Parts
pub mod Calls
pub mod Goals
pub mod Reason
pub mod Written
pub mod EndToEnd
pub mod Cases
pub mod Instance
