pub mod Callees
pub mod Machines
pub mod Table
