-- Names that crates above use.
pub use Rattle.event_forms.specs.view.ShapeView
pub mod Refused
pub mod Places
pub mod Clauses
pub mod Constants
pub mod Keys
pub mod Declarations
pub mod Isomorphisms
pub mod Instances
pub mod SecondOrder
pub mod Transformations
pub mod Representations
pub mod Shapes
pub mod view
