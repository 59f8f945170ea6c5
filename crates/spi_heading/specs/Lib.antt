pub mod Headings
pub mod Views
pub mod Spans
pub mod Grammar
pub mod Taking
pub mod Each
pub mod Repeated
pub mod Reading
