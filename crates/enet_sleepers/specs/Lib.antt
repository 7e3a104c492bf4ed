pub mod Places
pub mod Seating
pub mod Sleeping
pub mod Soon
pub mod Unproved
pub mod Private
