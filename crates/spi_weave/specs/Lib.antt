pub mod Woven
pub mod Starts
