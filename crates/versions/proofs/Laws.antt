pub mod Chain
pub mod Seal
pub mod Table
