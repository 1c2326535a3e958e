pub mod TermLists
