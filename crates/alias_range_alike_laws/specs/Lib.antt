pub mod Ranging
pub mod Spans
