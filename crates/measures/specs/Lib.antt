-- Names that crates above use.
pub use Rattle.measures.specs.view.Calls
pub mod DefaultMeasure
pub mod Outcomes
pub mod view
