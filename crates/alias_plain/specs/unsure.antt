pub mod Words
pub mod Sets
pub mod Ways
pub mod WordLaws
pub mod SetLaws
pub mod WayLaws
