pub mod Lookups
pub mod Placing
pub mod Trying
pub mod Waited
pub mod Spreading
pub mod Writing
