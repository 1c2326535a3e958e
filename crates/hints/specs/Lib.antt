pub mod Refused
pub mod Formulas
pub mod Facts
pub mod Steps
pub mod Start
