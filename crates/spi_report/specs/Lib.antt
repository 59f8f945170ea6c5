pub mod Names
pub mod Refused
pub mod Fault
pub mod Wrong
pub mod Events
pub mod Loaded
