pub mod Spans
pub mod Following
pub mod Complete
