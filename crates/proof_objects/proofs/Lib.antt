pub mod Summaries
pub mod Subproofs
