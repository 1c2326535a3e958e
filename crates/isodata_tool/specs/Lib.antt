-- Names that crates above use.
pub use Rattle.isodata_tool.specs.view.Requests
pub mod Carried
pub mod Places
pub mod Isomorphic
pub mod Proofs
pub mod Parts
pub mod Laws
pub mod view
