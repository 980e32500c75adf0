pub mod Overwriting
pub mod Checking
pub mod Loading
pub mod Storing
pub mod RoundTrip
