pub mod ends
pub mod causes
pub mod nested
pub mod handed
