pub mod Laws
pub mod Little
pub mod Unique
