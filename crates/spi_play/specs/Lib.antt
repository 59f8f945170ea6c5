pub mod Way
pub mod Play
pub mod Fitting
pub mod Outcome
pub mod Turning
