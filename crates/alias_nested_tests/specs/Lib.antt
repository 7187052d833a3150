pub mod Dropping
pub mod DroppingLaws
