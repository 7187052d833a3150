pub mod InOrder
mod Ordering
mod Preceding
pub mod Stepping
mod Recording
