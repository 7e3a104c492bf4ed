pub mod Guests
pub mod Seating
pub mod Sleepers
pub mod Soon
pub mod Unproved
