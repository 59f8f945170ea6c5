pub mod Seen
pub mod Kept
pub mod Pairs
pub mod Payments
pub mod Prefixes
pub mod Running
pub mod Paying
