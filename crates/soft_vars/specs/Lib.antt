-- Names that crates above use.
pub mod Dependents
pub mod Laws
pub mod Answers
pub mod view
