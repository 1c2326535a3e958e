-- Names that crates above use.
pub use Rattle.proof_texts.specs.view.ErrorView
pub mod Items
pub mod Refused
pub mod Words
pub mod Parts
pub mod StepParts
pub mod ProofTexts
pub mod Given
pub mod Printing
pub mod Laws
pub mod view
