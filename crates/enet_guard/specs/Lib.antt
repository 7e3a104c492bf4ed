pub mod Allowing
pub mod Asking
pub mod Guarding
pub mod Journals
pub mod Loads
pub mod Passing
pub mod Private
pub mod Shares
