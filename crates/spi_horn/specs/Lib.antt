pub mod Leading
pub mod Waits
pub mod Finding
pub mod Needs
pub mod Lines
