pub mod Passage
pub mod Stepping
pub mod Together
pub mod Walking
pub mod Unmarked
pub mod Whole
pub mod Texts
pub mod Accepting
