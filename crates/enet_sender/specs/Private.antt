-- What only private functions and proofs speak of: no caller is promised anything by it.
pub mod Course
pub mod Invariant
pub mod Pending
pub mod Queues
pub mod Rings
pub mod Rounds
pub mod Trims
pub mod Foretold
pub mod Late
pub mod Outstanding
