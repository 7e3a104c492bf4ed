pub mod Plans
pub mod Visits
pub mod Private
