-- What only private functions and proofs speak of: no caller is promised anything by it.
pub mod Crediting
pub mod Held
pub mod Shown
pub mod Sleeping
pub mod Ticking
pub mod Receiving
