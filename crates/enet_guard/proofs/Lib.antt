pub mod Ids
pub mod Passings
pub mod Learning
mod Rests
mod Loading
mod Paying
mod Spending
