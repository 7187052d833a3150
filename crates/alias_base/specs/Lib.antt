pub mod Answer
pub mod Find
pub mod Indexes
pub mod Lending
pub mod formers
pub mod AnswerLaws
pub mod failures
