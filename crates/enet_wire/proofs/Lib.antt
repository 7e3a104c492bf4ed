pub mod Short
pub mod Nothing
pub mod Addresses
