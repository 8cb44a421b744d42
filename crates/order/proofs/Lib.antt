-- The order theorem: the argument, then the theorem and that it is not vacuous. What a reader has to believe stands in
-- specs/.

-- Planning: placing keeps the chains right, and the walk along a chain ends at the last write.
pub mod Linking
pub mod Placing
pub mod Walk
-- Execution: what a reader finds, and that every step keeps the invariants; so safety.
pub mod Changes
pub mod Found
pub mod Steps
pub mod Safety
-- Progress: what is left to do is a number that falls.
pub mod Sums
pub mod Remaining
pub mod Lowering
pub mod Reaching
pub mod Progress
-- The theorem.
pub mod Reached
pub mod Theorem
-- The theorem once more, over the run of lists.
pub mod ListLaws
pub mod ListTheorem
-- The interface can be met, for every proper batch; and a batch that is proper, run in an order of its own.
pub mod Responses
pub mod Instance
pub mod Listing
