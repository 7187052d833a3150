pub mod Carried
pub mod Tables
pub mod Spans
pub mod Captures
pub mod Seen
pub mod Solving
pub mod HandedOut
