pub mod Items
pub mod Making
pub mod Heap
pub mod Histories
pub mod Paths
pub mod Reading
pub mod Rows
