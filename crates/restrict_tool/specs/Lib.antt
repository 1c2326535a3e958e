-- Names that crates above use.
pub use Rattle.restrict_tool.specs.view.Requests
pub mod Restrictions
pub mod Proofs
pub mod Parts
pub mod Laws
pub mod view
