pub mod DerivedRules
pub mod Gathering
pub mod Bodies
pub mod Among
pub mod Schemes
pub mod Differences
pub mod Conditions
