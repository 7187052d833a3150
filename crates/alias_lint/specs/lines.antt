pub mod BlockTables
pub mod Summaries
