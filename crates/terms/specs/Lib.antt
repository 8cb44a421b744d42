pub mod Refusals
pub mod Reserved
pub mod Unique
