-- What only private functions and proofs speak of: no caller is promised anything by it.
pub mod InputTexts
pub mod Pieces
