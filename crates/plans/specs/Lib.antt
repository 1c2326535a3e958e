pub mod Entries
pub mod Plans
pub mod Proving
pub mod Laws
