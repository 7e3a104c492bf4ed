-- What only private functions and proofs speak of: no caller is promised anything by it.
pub mod Turning
pub mod Places
pub mod Reached
pub mod Lending
pub mod Around
