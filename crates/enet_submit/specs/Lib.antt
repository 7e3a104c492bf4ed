pub mod Broadcast
pub mod Requests
pub mod Parcels
pub mod History
pub mod Rule
pub mod Words
pub mod Private
