pub mod Sites
pub mod Turning
pub mod Standing
pub mod Private
pub mod Records
pub mod RecordsPrivate
