pub mod WriteBack
pub mod WriteBackLaws
