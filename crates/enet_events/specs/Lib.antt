pub mod History
pub mod Rule
pub mod Tokens
pub mod Words
pub mod Private
