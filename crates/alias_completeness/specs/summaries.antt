pub mod KeptTables
pub mod SummaryOrder
pub mod Faces
