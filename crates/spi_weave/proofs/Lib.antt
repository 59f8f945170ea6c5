pub mod Forming
pub mod Formed
pub mod Starting
