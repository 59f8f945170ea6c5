pub mod Narrations
pub mod Views
pub mod Grammar
pub mod Words
pub mod Faults
pub mod Reads
