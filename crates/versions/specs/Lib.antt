pub mod Entry
pub mod Table
pub mod Step
pub mod Chain
pub mod Seal
pub mod LawsTable
pub mod LawsSeal
pub mod Unique
