-- What only private functions and proofs speak of: no caller is promised anything by it.
pub mod Acting
pub mod AtOnce
pub mod Handling
pub mod Peered
pub mod Time
