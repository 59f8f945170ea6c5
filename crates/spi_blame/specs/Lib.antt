pub mod Blaming
pub mod Paths
pub mod Reasons
pub mod Mending
pub mod Told
