pub mod Serving
pub mod Leaving
pub mod Private
