-- Names that crates above use.
pub use Rattle.evaluator.specs.view.Callees
pub use Rattle.evaluator.specs.view.Machines
pub use Rattle.evaluator.specs.view.Table
pub mod Counted
pub mod Laws
pub mod Answers
pub mod view
