pub mod ShapeView
