pub mod Session
pub mod Sizes
pub mod Terms
pub mod Verification
