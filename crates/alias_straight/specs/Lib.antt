pub mod Entries
pub mod Items
pub mod Kinds
pub mod Members
pub mod Tables
pub mod Takes
pub mod Units
