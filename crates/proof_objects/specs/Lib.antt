-- Names that crates above use.
pub use Rattle.proof_objects.specs.view.ProofView
pub use Rattle.proof_objects.specs.view.ProofFalls
pub mod RuleNames
pub mod StepRules
pub mod ProofTrees
pub mod view
