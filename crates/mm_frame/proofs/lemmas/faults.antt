-- The fault of a statement: the table read from left to right, and what the code finds.

pub mod FaultLemmas
pub mod FaultReading
pub mod FoundFaults
