-- What only private functions and proofs speak of: no caller is promised anything by it.
pub mod Admitted
pub mod InPlace
pub mod Next
pub mod ReceiverParts
pub mod Walk
