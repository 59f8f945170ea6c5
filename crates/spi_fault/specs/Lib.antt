pub mod Checks
pub mod Passing
pub mod Faults
pub mod Trying
pub mod Giving
