pub mod Inbox
pub mod Bounds
pub mod DataEffect
pub mod Made
pub mod Invariant
pub mod Codes
pub mod InboxParts
pub mod Private
