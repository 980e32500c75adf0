pub mod Lines
pub mod Records
pub mod Answer
pub mod Plans
