pub mod ProofView
pub mod Summaries
pub mod Kept
pub mod ProofFalls
