-- What is promised, proved: what the log's transactions mean to the order theorem, the opened engine, what a sealed
-- one holds.
pub mod Meanings
pub mod Opening
pub mod Ending
-- The theorem.
pub mod Reached
pub mod Theorem
