pub mod Passing
pub mod Alike
pub mod AlikeBlocks
pub mod Accepting
pub mod Saying
pub mod Certifying
