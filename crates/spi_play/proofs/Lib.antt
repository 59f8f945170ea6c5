pub mod Seats
pub mod Standing
pub mod Steps
pub mod Same
pub mod Running
pub mod Fit
