pub mod TokenView
pub mod KindView
pub mod Says
pub mod Closes
pub mod BookSteps
pub mod Building
