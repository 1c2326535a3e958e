pub mod Trees
pub mod Derived
pub mod Reasons
pub mod WayBack
pub mod Start
pub mod Proving
pub mod Laws
