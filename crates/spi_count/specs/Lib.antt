pub mod Counts
pub mod Sums
pub mod Keys
pub mod Keeping
pub mod Adding
pub mod Piles
