pub mod WindowsLemmas
