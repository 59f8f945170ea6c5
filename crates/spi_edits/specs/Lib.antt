pub mod Edits
pub mod Views
pub mod Grammar
pub mod Reads
pub mod Spans
