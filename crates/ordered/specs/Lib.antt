-- Demand 3 for the engine: what a reader has to believe, and the refinement. The theorem stands in proofs/.

-- What is spoken of: the engine with its tables and the steps offered to it, what is promised, what one may ask.
pub mod Promise
pub mod Questions
-- The counters' rule as a rule of the order theorem.
pub mod Counters
-- The batch that an opened engine has before it, how the engine stands in the machine's state, and the engine as a
-- store.
pub mod Describing
pub mod Relation
pub mod Stepping
-- Laws of chains of checks, carry marks and results.
pub mod Chains
pub mod Marking
pub mod Results
-- The refinement, call by call.
pub mod Ranging
pub mod Changing
pub mod Linking
pub mod Claiming
pub mod Planning
pub mod Placing
pub mod Looking
pub mod Fitting
pub mod Moving
pub mod Advancing
pub mod Filling
pub mod Acting
pub mod Sealing
pub mod Closed
-- The engine meets the order theorem's interface; what a refused or a wrongly lent call does.
pub mod Meeting
pub mod Keeping
pub mod Lending
pub mod Answering
pub mod Refusing
