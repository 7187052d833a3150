pub mod lints
pub mod plain
