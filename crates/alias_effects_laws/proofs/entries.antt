pub mod States
pub mod Counting
pub mod NamedLaw
pub mod Instructions
pub mod Keeping
pub mod Blocks
pub mod Entries
