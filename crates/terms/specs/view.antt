pub mod TermView
pub mod TermFalls
