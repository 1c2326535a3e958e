pub mod Calling
pub mod Held
pub mod Proving
