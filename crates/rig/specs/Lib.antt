pub mod Admission
pub mod Blocks
pub mod Planning
pub mod Campaign
