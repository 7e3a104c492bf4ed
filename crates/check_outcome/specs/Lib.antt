pub mod Following
pub mod Life
pub mod Sound
pub mod Private
