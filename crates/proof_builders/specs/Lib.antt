pub mod Derived
pub mod Congruence
pub mod Schemes
pub mod Laws
pub mod view
