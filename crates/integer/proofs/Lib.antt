pub mod Ceiling
pub mod BigEndian
pub mod Store
pub mod Operators
