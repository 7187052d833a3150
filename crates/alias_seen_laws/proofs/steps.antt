pub mod Both
pub mod Applying
pub mod Calling
pub mod Stepping
pub mod Instructing
pub mod Blocking
