pub mod Passing
pub mod Edges
pub mod Arrivals
pub mod Forward
pub mod Solves
pub mod Sending
