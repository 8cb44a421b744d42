pub mod Meaning
pub mod Unique
