pub mod Innermost
pub mod Levels
pub mod Ordering
pub mod Solving
pub mod Staying
pub mod Unit
