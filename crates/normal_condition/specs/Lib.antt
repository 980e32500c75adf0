-- The specifications of sums and conditions in normal form: the signs of a sum, its terms one by one, the bytes of a condition.
pub mod Signs
pub mod Sums
pub mod Conditions
