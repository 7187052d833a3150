pub mod plain
pub mod counts
