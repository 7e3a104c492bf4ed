pub mod Places
pub mod Joins
