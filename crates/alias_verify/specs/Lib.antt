pub mod Edges
pub mod Printing
