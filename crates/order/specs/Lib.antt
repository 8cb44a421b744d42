-- The order theorem: what a reader has to believe, with the laws of tables and of last writes. The argument, the
-- theorem and that it is not vacuous stand in proofs/, in the order of proofs/Lib.antt.

-- What is spoken of: a batch, its one-by-one run, and a store as its user sees it.
pub mod Tables
pub mod Batch
pub mod OneByOne
pub mod Plan
pub mod Machine
pub mod Store
-- The one-by-one run and its last writes.
pub mod TableLaws
pub mod Writes
pub mod LastWrite
-- The invariants, and the interface that a store has to meet.
pub mod Invariant
pub mod Interface
-- The one-by-one run once more, over lists, as a store may have it.
pub mod ListRun
