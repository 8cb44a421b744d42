pub mod LawsReport
pub mod LawsRunning
pub mod Lent
pub mod Report
pub mod Running
pub mod Theorems
pub mod Unique
