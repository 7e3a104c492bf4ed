pub mod Words
pub mod MarksLemmas
pub mod OnceLemmas
pub mod InOrderLemmas
